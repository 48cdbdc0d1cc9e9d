use Rattle.std.proofs.Common.{rules, ◌≡◌, ◌<◌, ◌≤◌, length, arith, subst, List, [], ◌∷◌, ℕ, zero, suc, refl, inl, true, false}
use Rattle.std.specs.Prelude.{◌==◌}
use Rattle.httparse.specs.Grammar.{NeverHasRequest}
use Rattle.http_in.specs.declared.heads.Step.TheVariants.{End, Cut, Bad, HeadTooLarge, ReadFault}
use Rattle.http_in.specs.Heads.{IsOver}
use Rattle.http_in.specs.Verdicts.{IsWhole, IsUnfinished}
use Rattle.http_in.proofs.SourceFacts.{fills_none, fills_more}
use Rattle.http_in.proofs.HeadFacts.{call_by, taken_call, bad_held, cut_held, fault_held, unanswered_still}
use Rattle.http_in.proofs.heads.read_head.Goals as goal

some_of : (n : ℕ) → false ≡ (n == 0) → 0 < n
some_of zero is = cc
some_of (suc n) is = omega arith

zero_of : (n : ℕ) → true ≡ (n == 0) → n ≡ 0
zero_of n is = search rules

none_of : (bytes : List ℕ) → length bytes ≡ 0 → bytes ≡ []
none_of [] is = refl
none_of (b ∷ bytes) is = let no : ⊥ = omega (arith, is) in absurd no

pub returns-in-Whole-clause-step : goal.returns-in-Whole-clause-step
returns-in-Whole-clause-step g c =
    let short : length c.reads.held ≤ 16384 = c.reads.invariant.going.within in
    let P : List ℕ → Type 0 = λ b. IsWhole b c.judge.new.spans c.in-Whole.found in
    taken_call g.S.Source.given g.S.Source.left c.args.source.now c.reads.source c.args.held.now c.reads.held c.take_head.new.held
    c.judge.new.spans c.in-Whole.found c.take_head.result c.reads.invariant.fills
    (subst P c.as_slice.ensures.value c.in-Whole.ensures.verdict) short c.take_head.ensures.taken

pub returns-in-TooLarge-clause-step : goal.returns-in-TooLarge-clause-step
returns-in-TooLarge-clause-step g c =
    call_by g.S.Source.given g.S.Source.left c.args.source.now c.reads.source c.args.held.now c.reads.held c.reads.held
    HeadTooLarge c.reads.invariant.fills (subst IsOver c.as_slice.ensures.value c.in-TooLarge.ensures.verdict, refl) tt

pub returns-in-Bad-clause-step : goal.returns-in-Bad-clause-step
returns-in-Bad-clause-step g c =
    let short : length c.reads.held ≤ 16384 = c.reads.invariant.going.within in
    let bad = bad_held c.reads.held short (subst NeverHasRequest c.as_slice.ensures.value c.in-Bad.ensures.verdict) in
    call_by g.S.Source.given g.S.Source.left c.args.source.now c.reads.source c.args.held.now c.reads.held c.reads.held
    Bad c.reads.invariant.fills (inl bad, refl) tt

pub returns-then-is_empty-clause-step : goal.returns-then-is_empty-clause-step
returns-then-is_empty-clause-step g c =
    let fills = fills_more g.S.Source.given g.S.Source.left c.args.source.now c.reads.source c.fill.new.source c.args.held.now
    c.reads.held c.fill.new.self c.reads.invariant.fills c.in-End.ensures.bytes in
    let none = none_of c.fill.new.self (zero_of (length c.fill.new.self) c.if-is_empty.ensures) in
    call_by g.S.Source.given g.S.Source.left c.args.source.now c.fill.new.source c.args.held.now c.fill.new.self c.fill.new.self
    End fills (none, none) (c.in-End.ensures.end refl).0

pub returns-else-is_empty-clause-step : goal.returns-else-is_empty-clause-step
returns-else-is_empty-clause-step g c =
    let fills = fills_more g.S.Source.given g.S.Source.left c.args.source.now c.reads.source c.fill.new.source c.args.held.now
    c.reads.held c.fill.new.self c.reads.invariant.fills c.in-End.ensures.bytes in
    let end = c.in-End.ensures.end refl in
    let unfinished = subst IsUnfinished c.as_slice.ensures.value c.in-Unfinished.ensures.verdict in
    let some : 0 < length c.fill.new.self = some_of (length c.fill.new.self) c.if-is_empty.ensures in
    call_by g.S.Source.given g.S.Source.left c.args.source.now c.fill.new.source c.args.held.now c.fill.new.self c.fill.new.self
    Cut fills (cut_held c.reads.held c.fill.new.self unfinished end.1 (omega (arith, some)), refl) end.0

pub returns-in-Fault-clause-step : goal.returns-in-Fault-clause-step
returns-in-Fault-clause-step g c =
    let fills = fills_more g.S.Source.given g.S.Source.left c.args.source.now c.reads.source c.fill.new.source c.args.held.now
    c.reads.held c.fill.new.self c.reads.invariant.fills c.in-Fault.ensures.bytes in
    let fault = c.in-Fault.ensures.fault refl in
    let unfinished = subst IsUnfinished c.as_slice.ensures.value c.in-Unfinished.ensures.verdict in
    call_by g.S.Source.given g.S.Source.left c.args.source.now c.fill.new.source c.args.held.now c.fill.new.self c.fill.new.self
    ReadFault fills (fault_held c.reads.held c.fill.new.self unfinished fault.1, refl) tt

pub reads-init : goal.reads-init
reads-init g c = record {
  fills = fills_none g.S.Source.given g.S.Source.left c.args.source.now c.args.held.now;
  going = search rules;
  still = λ _. record { source_is = refl; bytes_are = refl };
}

pub reads-preserved : goal.reads-preserved
reads-preserved g c =
    let unfinished = subst IsUnfinished c.as_slice.ensures.value c.in-Unfinished.ensures.verdict in
    record {
      fills = fills_more g.S.Source.given g.S.Source.left c.args.source.now c.reads.source c.fill.new.source c.args.held.now
          c.reads.held c.fill.new.self c.reads.invariant.fills c.in-More.ensures.bytes;
      going = search rules;
      still = λ enough. absurd (unanswered_still c.args.source.now c.reads.source c.args.held.now c.reads.held c.reads.invariant.still unfinished enough);
    }

pub returns-in-Whole-clause-still : goal.returns-in-Whole-clause-still
returns-in-Whole-clause-still g c enough = (c.reads.invariant.still enough).source_is

pub returns-then-is_empty-clause-still : goal.returns-then-is_empty-clause-still
returns-then-is_empty-clause-still g c enough =
    let unfinished = subst IsUnfinished c.as_slice.ensures.value c.in-Unfinished.ensures.verdict in
    absurd (unanswered_still c.args.source.now c.reads.source c.args.held.now c.reads.held c.reads.invariant.still unfinished enough)

pub returns-else-is_empty-clause-still : goal.returns-else-is_empty-clause-still
returns-else-is_empty-clause-still g c enough =
    let unfinished = subst IsUnfinished c.as_slice.ensures.value c.in-Unfinished.ensures.verdict in
    absurd (unanswered_still c.args.source.now c.reads.source c.args.held.now c.reads.held c.reads.invariant.still unfinished enough)

pub returns-in-Fault-clause-still : goal.returns-in-Fault-clause-still
returns-in-Fault-clause-still g c enough =
    let unfinished = subst IsUnfinished c.as_slice.ensures.value c.in-Unfinished.ensures.verdict in
    absurd (unanswered_still c.args.source.now c.reads.source c.args.held.now c.reads.held c.reads.invariant.still unfinished enough)
