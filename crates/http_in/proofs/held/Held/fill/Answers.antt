use Rattle.std.proofs.Common.{rules, arith, ◌≡◌, ◌-◌, ◌+◌, ◌++◌, length, take, ap, List, ℕ, ◌∙◌}
use Rattle.std.proofs.lemmas.List.{with_items_is}
use Rattle.std.specs.Vec.{with_items}
use borrow.Rule.Slice.PartMut.{put_mid}
use Rattle.http_in.proofs.HeldFacts.{filled}
use Rattle.http_in.proofs.held.Held.fill.Goals as goal

pub returns-clause-bytes : goal.returns-clause-bytes
returns-clause-bytes g c = record {
  fresh = take c.in-Ok.count c.read.new.buf;
  moves = search rules;
  behind =
      let end : ℕ = c.self.inside.end - c.self.inside.start in
      let v = c.move_to_front.new.buffer in
      let bytes = c.deref_mut.result.now in
      let whole = put_mid end (length bytes - end) bytes c.read.new.buf in
      let kept : length c.read.new.buf ≡ length bytes - end = search rules in
      let size : length whole ≡ v.len = search rules in
      let stored : (with_items v whole).items ≡ whole = with_items_is v whole size in
      let front : take end bytes ≡ c.args.self.now =
      ap (λ (l : List ℕ). take end l) c.deref_mut.ensures.value ∙ c.move_to_front.ensures.moved ∙ c.self.view_is in
      let from_front : end + c.in-Ok.count - 0 ≡ end + c.in-Ok.count = omega arith in
      ap (λ (n : ℕ). take n (with_items v whole).items) from_front
      ∙ ap (λ (l : List ℕ). take (end + c.in-Ok.count) l) stored
      ∙ filled bytes c.read.new.buf end (length bytes - end) c.in-Ok.count (search rules) c.in-Ok.ensures.bound
      ∙ ap (λ (l : List ℕ). l ++ take c.in-Ok.count c.read.new.buf) front;
}
