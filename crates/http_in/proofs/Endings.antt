-- The bytes left are one of the endings in one way.
use Rattle.std.proofs.Common.{◌≡◌, ℕ, ◌+◌, ◌-◌, ◌<◌, ◌≤◌, List, [], ◌++◌, length, take, drop, arith, subst, sym, ap, ◌∙◌, append-nil, inl, inr}
use Rattle.std.proofs.lemmas.List.{take_all, take-append-drop}
use Rattle.std.proofs.Math.Seq.{take-append-add}
use Rattle.httparse.specs.Grammar.{RequestHead, print_request, ReadsRequest, NeverHasRequest, MayBecomeRequest, EndsInTarget}
use Rattle.httparse.proofs.GrammarLemmas.{ReadsRequest-append, request_unique}
use Rattle.http_in.specs.Heads.{judged, BeginsWithHead, IsOver, IsBad, IsCut, IsOpenTarget}
use Rattle.http_in.specs.Unique.{OneEnding}

-- a head within the limit stands in the judged bytes
pub head_judged : (bytes : List ℕ) (h : RequestHead) (r : List ℕ) → BeginsWithHead bytes h r
    → ReadsRequest (judged bytes) h (take (16384 - length (print_request h)) r)
head_judged bytes h r head =
    let short : length (print_request h) ≤ 16384 = head.short in
    let whole : length (print_request h) + (16384 - length (print_request h)) ≡ 16384 = omega arith in
    let P : ℕ → Type 0 = λ n. take n (print_request h ++ r) ≡ print_request h ++ take (16384 - length (print_request h)) r in
    let cut = subst P whole (take-append-add (print_request h) r (16384 - length (print_request h))) in
    (head.reads.0, ap judged head.reads.1 ∙ cut)

-- and a head of the judged bytes stands in all of them
pub judged_head : (bytes : List ℕ) (k : RequestHead) (q : List ℕ) → ReadsRequest (judged bytes) k q
    → ReadsRequest bytes k (q ++ drop 16384 bytes)
judged_head bytes k q reads =
    let P : List ℕ → Type 0 = λ b. ReadsRequest b k (q ++ drop 16384 bytes) in
    subst P (take-append-drop 16384 bytes) (ReadsRequest-append (judged bytes) k q (drop 16384 bytes) reads)

-- what can't be a head and may become one ends in a target
pub hopeful_never : (bytes : List ℕ) → MayBecomeRequest bytes → NeverHasRequest bytes → EndsInTarget bytes
hopeful_never bytes (inl x) never = absurd (never x.0 x.1 [] x.2)
hopeful_never bytes (inr ends) never = ends

never_now : (bytes : List ℕ) (h : RequestHead) (r : List ℕ) → NeverHasRequest bytes → ReadsRequest bytes h r → ⊥
never_now bytes h r never reads =
    let P : List ℕ → Type 0 = λ b. ReadsRequest b h r in
    never [] h r (subst P (sym (append-nil bytes)) reads)

over_bad : (bytes : List ℕ) → IsOver bytes → IsBad bytes → IsOpenTarget bytes
over_bad bytes (inl many) bad = absurd (never_now (judged bytes) many.0 many.1 bad many.2)
over_bad bytes (inr over) bad = (hopeful_never (judged bytes) over.hopeful bad, bad)

over_cut : (bytes : List ℕ) → IsOver bytes → IsCut bytes → ⊥
over_cut bytes (inl many) cut = cut.unfinished many.0 (many.1 ++ drop 16384 bytes) (judged_head bytes many.0 many.1 many.2)
over_cut bytes (inr over) cut = omega (arith, over.long, cut.short)

over_head : (bytes : List ℕ) (h : RequestHead) (r : List ℕ) → BeginsWithHead bytes h r → IsOver bytes → ⊥
over_head bytes h r head (inl many) =
    let same = request_unique bytes h many.0 r _ head.reads (judged_head bytes many.0 many.1 many.2) in
    let few : length h.fields ≤ 64 = head.few in
    let more : 64 < length many.0.fields = many.3 in
    let count : length h.fields ≡ length many.0.fields = ap (λ (x : RequestHead). length x.fields) same.0 in
    omega arith
over_head bytes h r head (inr over) = over.unfinished h _ (head_judged bytes h r head)

pub one_ending_holds : (bytes : List ℕ) → OneEnding bytes
one_ending_holds bytes = record {
  one_head = λ h k r q a b. request_unique bytes h k r q a.reads b.reads;
  head_or_over = λ h r a. over_head bytes h r a;
  head_or_bad = λ h r a bad. never_now (judged bytes) h _ bad (head_judged bytes h r a);
  head_or_cut = λ h r a cut. cut.unfinished h r a.reads;
  over_or_cut = over_cut bytes;
  over_or_bad = over_bad bytes;
  cut_or_bad = λ cut bad.
      let same : judged bytes ≡ bytes = take_all 16384 bytes (omega (arith, cut.short)) in
      (subst EndsInTarget (sym same) (hopeful_never bytes cut.hopeful (subst NeverHasRequest same bad)), bad);
}
