-- Bytes split into requests and an ending in one way.
use Rattle.std.proofs.Common.{◌≡◌, ℕ, ◌<◌, ◌≤◌, List, [], ◌∷◌, ◌++◌, length, take, arith, subst, sym, ap, ◌∙◌, inl, inr, ◌⊎◌, refl, Some, None, length-append, append-nil}
use Rattle.httparse.specs.Grammar.{RequestHead, print_request, lf, IsRequestHead, IsField, is_token_byte, is_uri_byte}
use Rattle.std.proofs.lemmas.List.{length-take}
use Rattle.std.proofs.lemmas.List.Elements.{All-nil, All-cons}
use Rattle.std.specs.Prelude.{IsTrue}
use Rattle.http_in.specs.declared.head.Length.{Length}
use Rattle.http_in.specs.Heads.{BeginsWithHead, IsBad, IsOver, IsOpenTarget}
use Rattle.http_in.specs.Framing.{framing_of, IsMisframed}
use Rattle.http_in.specs.Parts.{limit_of}
use Rattle.http_in.specs.Stands.{place_of}
use Rattle.http_in.specs.Bodies.{Ending, done, cut, bad, too_large, BodyFrom}
use Rattle.http_in.specs.Requests.{Request, BeginsWithBody, Final, at_end, is_cut, is_bad, is_over, EndsAs, Requests, none, more}
use Rattle.http_in.specs.Unique.{OneReading}
use Rattle.http_in.proofs.Endings.{one_ending_holds}
use Rattle.http_in.proofs.OneBody.{one_body_holds}

-- a head has bytes
some_head : (h : RequestHead) → 0 < length (print_request h)
unfolding print_request
some_head h = simp (length-append {A = ℕ}) (omega arith)

no_head : (h : RequestHead) (bytes rest : List ℕ) → bytes ≡ [] → BeginsWithHead bytes h rest → ⊥
no_head h bytes rest empty begins =
    let whole : length bytes ≡ length (print_request h ++ rest) = ap length begins.reads.1 in
    let nothing : length bytes ≡ 0 = ap length empty in
    omega (arith, whole, nothing, some_head h, length-append (print_request h) rest)

-- two bodies of the same bytes are one
SameBody : (r q : Request) (e f : Ending) → Type 0
SameBody r q e f = (r ≡ q) × (e ≡ f)

one_begin : (bytes : List ℕ) (r q : Request) (e f : Ending) → BeginsWithBody bytes r e → BeginsWithBody bytes q f → SameBody r q e f
unfolding SameBody
one_begin bytes r q e f x y =
    let heads = (one_ending_holds bytes).one_head r.head q.head x.middle y.middle x.begins y.begins in
    let fram : Some x.framing ≡ Some y.framing = sym x.framed ∙ ap framing_of heads.0 ∙ y.framed in
    let same : x.framing ≡ y.framing = cc in
    let P : RequestHead → Type 0 = λ h. BodyFrom (place_of (limit_of h.target) y.framing) y.middle q.content f in
    let Q : List ℕ → Type 0 = λ m. BodyFrom (place_of (limit_of r.head.target) y.framing) m q.content f in
    let R : Length → Type 0 = λ n. BodyFrom (place_of (limit_of r.head.target) n) x.middle q.content f in
    let moved = subst R (sym same) (subst Q (sym heads.1) (subst P (sym heads.0) y.body)) in
    let bodies = one_body_holds (place_of (limit_of r.head.target) x.framing) x.middle r.content q.content e f x.body moved in
    (same_request r q heads.0 bodies.0, bodies.1)
  where
    same_request : (r q : Request) → r.head ≡ q.head → r.content ≡ q.content → r ≡ q
    same_request r q h c =
        let make : RequestHead → List ℕ → Request = λ a b. record { head = a; content = b } in
        ap (λ a. make a r.content) h ∙ ap (λ b. make q.head b) c

done_same : (a b : List ℕ) → done a ≡ done b → a ≡ b
done_same a b e = cc

-- two whole requests at the front of the same bytes are one
pub one_request : (bytes rest after : List ℕ) (r q : Request) → BeginsWithBody bytes r (done rest) → BeginsWithBody bytes q (done after) → (r ≡ q) × (rest ≡ after)
unfolding SameBody
one_request bytes rest after r q x y = let same = one_begin bytes r q (done rest) (done after) x y in (same.0, done_same rest after same.1)

framed_or_not : (bytes : List ℕ) (r : Request) (e : Ending) → BeginsWithBody bytes r e → IsMisframed bytes → ⊥
framed_or_not bytes r e x y =
    let heads = (one_ending_holds bytes).one_head r.head y.head x.middle y.rest x.begins y.begins in
    let both : Some x.framing ≡ None = sym x.framed ∙ ap framing_of heads.0 ∙ y.unframed in
    cc

pub done_or_ends : (bytes rest : List ℕ) (r : Request) (e : Final) → BeginsWithBody bytes r (done rest) → EndsAs bytes e → ⊥
unfolding SameBody
done_or_ends bytes rest r at_end x ends = no_head r.head bytes x.middle ends x.begins
done_or_ends bytes rest r is_cut x (inl c) = (one_ending_holds bytes).head_or_cut r.head x.middle x.begins c
done_or_ends bytes rest r is_cut x (inr y) =
    let same : done rest ≡ cut = (one_begin bytes r y.0 (done rest) cut x y.1).1 in cc
done_or_ends bytes rest r is_bad x (inl b) = (one_ending_holds bytes).head_or_bad r.head x.middle x.begins b
done_or_ends bytes rest r is_bad x (inr (inl m)) = framed_or_not bytes r (done rest) x m
done_or_ends bytes rest r is_bad x (inr (inr y)) =
    let same : done rest ≡ bad = (one_begin bytes r y.0 (done rest) bad x y.1).1 in cc
done_or_ends bytes rest r is_over x (inl o) = (one_ending_holds bytes).head_or_over r.head x.middle x.begins o
done_or_ends bytes rest r is_over x (inr y) =
    let same : done rest ≡ too_large = (one_begin bytes r y.0 (done rest) too_large x y.1).1 in cc

-- no bytes may become a head
a_head : RequestHead
a_head = record { blank = []; method = 71 ∷ []; target = 47 ∷ []; minor = 0; line_end = lf; fields = []; last = lf }

nothing_bad : (bytes : List ℕ) → bytes ≡ [] → IsBad bytes → ⊥
unfolding a_head is_token_byte lib.Utf8.encode
nothing_bad bytes empty never = (subst IsBad empty never) (print_request a_head) a_head [] (is_head, sym (append-nil (print_request a_head)))
  where
    is_head : IsRequestHead a_head
    is_head = record {
      method = (omega arith, All-cons (λ b. IsTrue (is_token_byte b)) 71 [] refl (All-nil (λ b. IsTrue (is_token_byte b))));
      target = (omega arith, All-cons (λ b. IsTrue (is_uri_byte b)) 47 [] refl (All-nil (λ b. IsTrue (is_uri_byte b))));
      target_text = (47 ∷ [], (refl, refl));
      minor = omega arith;
      fields = All-nil IsField;
    }

nothing_over : (bytes : List ℕ) → bytes ≡ [] → IsOver bytes → ⊥
nothing_over bytes empty (inl many) =
    let whole : length (take 16384 bytes) ≡ length (print_request many.0 ++ many.1) = ap length many.2.1 in
    let few : length (take 16384 bytes) ≤ 0 = rw empty (omega (arith, length-take {A = ℕ})) in
    omega (arith, whole, few, some_head many.0, length-append (print_request many.0) many.1)
nothing_over bytes empty (inr over) = omega (arith, over.long, ap length empty)

-- two endings of the same bytes, by their kinds
nothing_or_cut : (bytes : List ℕ) → EndsAs bytes at_end → EndsAs bytes is_cut → IsOpenTarget bytes
nothing_or_cut bytes x (inl c) = absurd (omega (arith, c.some, ap length x))
nothing_or_cut bytes x (inr y) = absurd (no_head y.0.head bytes y.1.middle x y.1.begins)

nothing_or_bad : (bytes : List ℕ) → EndsAs bytes at_end → EndsAs bytes is_bad → IsOpenTarget bytes
nothing_or_bad bytes x (inl b) = absurd (nothing_bad bytes x b)
nothing_or_bad bytes x (inr (inl m)) = absurd (no_head m.head bytes m.rest x m.begins)
nothing_or_bad bytes x (inr (inr y)) = absurd (no_head y.0.head bytes y.1.middle x y.1.begins)

nothing_or_over : (bytes : List ℕ) → EndsAs bytes at_end → EndsAs bytes is_over → IsOpenTarget bytes
nothing_or_over bytes x (inl o) = absurd (nothing_over bytes x o)
nothing_or_over bytes x (inr y) = absurd (no_head y.0.head bytes y.1.middle x y.1.begins)

-- two bodies of the same bytes end in one way
bodies_apart : (bytes : List ℕ) (r q : Request) (e f : Ending) → BeginsWithBody bytes r e → BeginsWithBody bytes q f → e ≡ f
unfolding SameBody
bodies_apart bytes r q e f x y = (one_begin bytes r q e f x y).1

cut_is_bad : cut ≡ bad → ⊥
cut_is_bad e = cc

cut_is_large : cut ≡ too_large → ⊥
cut_is_large e = cc

bad_is_large : bad ≡ too_large → ⊥
bad_is_large e = cc

cut_or_bad : (bytes : List ℕ) → EndsAs bytes is_cut → EndsAs bytes is_bad → IsOpenTarget bytes
cut_or_bad bytes (inl c) (inl b) = (one_ending_holds bytes).cut_or_bad c b
cut_or_bad bytes (inl c) (inr (inl m)) = absurd ((one_ending_holds bytes).head_or_cut m.head m.rest m.begins c)
cut_or_bad bytes (inl c) (inr (inr y)) = absurd ((one_ending_holds bytes).head_or_cut y.0.head y.1.middle y.1.begins c)
cut_or_bad bytes (inr x) (inl b) = absurd ((one_ending_holds bytes).head_or_bad x.0.head x.1.middle x.1.begins b)
cut_or_bad bytes (inr x) (inr (inl m)) = absurd (framed_or_not bytes x.0 cut x.1 m)
cut_or_bad bytes (inr x) (inr (inr y)) = absurd (cut_is_bad (bodies_apart bytes x.0 y.0 cut bad x.1 y.1))

cut_or_over : (bytes : List ℕ) → EndsAs bytes is_cut → EndsAs bytes is_over → IsOpenTarget bytes
cut_or_over bytes (inl c) (inl o) = absurd ((one_ending_holds bytes).over_or_cut o c)
cut_or_over bytes (inl c) (inr y) = absurd ((one_ending_holds bytes).head_or_cut y.0.head y.1.middle y.1.begins c)
cut_or_over bytes (inr x) (inl o) = absurd ((one_ending_holds bytes).head_or_over x.0.head x.1.middle x.1.begins o)
cut_or_over bytes (inr x) (inr y) = absurd (cut_is_large (bodies_apart bytes x.0 y.0 cut too_large x.1 y.1))

bad_or_over : (bytes : List ℕ) → EndsAs bytes is_bad → EndsAs bytes is_over → IsOpenTarget bytes
bad_or_over bytes (inl b) (inl o) = (one_ending_holds bytes).over_or_bad o b
bad_or_over bytes (inl b) (inr y) = absurd ((one_ending_holds bytes).head_or_bad y.0.head y.1.middle y.1.begins b)
bad_or_over bytes (inr (inl m)) (inl o) = absurd ((one_ending_holds bytes).head_or_over m.head m.rest m.begins o)
bad_or_over bytes (inr (inl m)) (inr y) = absurd (framed_or_not bytes y.0 too_large y.1 m)
bad_or_over bytes (inr (inr x)) (inl o) = absurd ((one_ending_holds bytes).head_or_over x.0.head x.1.middle x.1.begins o)
bad_or_over bytes (inr (inr x)) (inr y) = absurd (bad_is_large (bodies_apart bytes x.0 y.0 bad too_large x.1 y.1))

finals : (bytes : List ℕ) (e f : Final) → EndsAs bytes e → EndsAs bytes f → (e ≡ f) ⊎ IsOpenTarget bytes
finals bytes at_end at_end x y = inl refl
finals bytes is_cut is_cut x y = inl refl
finals bytes is_bad is_bad x y = inl refl
finals bytes is_over is_over x y = inl refl
finals bytes at_end is_cut x y = inr (nothing_or_cut bytes x y)
finals bytes at_end is_bad x y = inr (nothing_or_bad bytes x y)
finals bytes at_end is_over x y = inr (nothing_or_over bytes x y)
finals bytes is_cut at_end x y = inr (nothing_or_cut bytes y x)
finals bytes is_bad at_end x y = inr (nothing_or_bad bytes y x)
finals bytes is_over at_end x y = inr (nothing_or_over bytes y x)
finals bytes is_cut is_bad x y = inr (cut_or_bad bytes x y)
finals bytes is_bad is_cut x y = inr (cut_or_bad bytes y x)
finals bytes is_cut is_over x y = inr (cut_or_over bytes x y)
finals bytes is_over is_cut x y = inr (cut_or_over bytes y x)
finals bytes is_bad is_over x y = inr (bad_or_over bytes x y)
finals bytes is_over is_bad x y = inr (bad_or_over bytes y x)

pub one_reading_holds : (bytes : List ℕ) → OneReading bytes
unfolding SameBody
one_reading_holds bytes rs qs left right e f x y = go bytes rs qs left right e f x y
  where
    go : (bytes : List ℕ) (rs qs : List Request) (left right : List ℕ) (e f : Final) → Requests bytes rs left e → Requests bytes qs right f
        → (rs ≡ qs) × (left ≡ right) × ((e ≡ f) ⊎ IsOpenTarget left)
    go _ _ _ _ _ _ _ (none bytes e x) (none _ f y) = (refl, refl, finals bytes e f x y)
    go _ _ _ _ _ _ _ (none bytes e x) (more _ rest left r rs f y after) = absurd (done_or_ends bytes rest r e y x)
    go _ _ _ _ _ _ _ (more bytes rest left r rs e x after) (none _ f y) = absurd (done_or_ends bytes rest r f x y)
    go _ _ _ _ _ _ _ (more bytes rest left r rs e x after) (more _ rest' left' q qs f y after') =
        let same = one_begin bytes r q (done rest) (done rest') x y in
        let tail : rest ≡ rest' = done_same rest rest' same.1 in
        let P : List ℕ → Type 0 = λ b. Requests b qs left' f in
        let next = go rest rs qs left left' e f after (subst P (sym tail) after') in
        (ap (λ (h : Request). h ∷ rs) same.0 ∙ ap (λ (t : List Request). q ∷ t) next.0, next.1, next.2)
