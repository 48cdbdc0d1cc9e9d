use Rattle.std.proofs.Common.{rules, ◌≡◌, ◌+◌, ◌==◌, Bool, Option, find, flat_map, get_or, drop, sym, ap, ◌∙◌}
use Rattle.std.specs.Option.{option_or}
use Rattle.fh_model.specs.declared.files.Revision.{Revision}
use Rattle.name_core.proofs.ChunkLemmas.{find_from}
use Rattle.name_core.proofs.machine.revision_in_chunks.Goals as goal

pub returns-in-Some : goal.returns-in-Some
returns-in-Some c =
    let chunks = c.args.chunks.now in
    let i = c.loop-chunk.chunk-index in
    let one = c.chunk-item.result in
    let p : Revision → Bool = λ kept. kept.file.rev == c.args.rev in
    let item : one ≡ get_or chunks i one = search rules in
    let list : c.as_slice.result.now ≡ one = c.as_slice.ensures ∙ c.deref.ensures in
    let rest : Option Revision = find p (flat_map (λ chunk. chunk) (drop (i + 1) chunks)) in
    ap (λ (found : Option Revision). option_or found rest) c.in-Some.ensures
    ∙ sym (find_from p chunks i one c.as_slice.result.now c.loop-chunk-test.true item list) ∙ c.loop-chunk.invariant

pub loop-chunk-preserved : goal.loop-chunk-preserved
loop-chunk-preserved c =
    let chunks = c.args.chunks.now in
    let i = c.loop-chunk.chunk-index in
    let one = c.chunk-item.result in
    let p : Revision → Bool = λ kept. kept.file.rev == c.args.rev in
    let item : one ≡ get_or chunks i one = search rules in
    let list : c.as_slice.result.now ≡ one = c.as_slice.ensures ∙ c.deref.ensures in
    let rest : Option Revision = find p (flat_map (λ chunk. chunk) (drop (i + 1) chunks)) in
    ap (λ (found : Option Revision). option_or found rest) c.in-None.ensures
    ∙ sym (find_from p chunks i one c.as_slice.result.now c.loop-chunk-test.true item list) ∙ c.loop-chunk.invariant
