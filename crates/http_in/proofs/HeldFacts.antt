-- The bytes at a part of a buffer, after a read behind them and without the first of them.
use Rattle.std.proofs.Common.{◌≡◌, ℕ, ◌+◌, ◌-◌, ◌≤◌, List, ◌++◌, length, take, drop, arith, ap, sym, ◌∙◌}
use Rattle.std.specs.Prelude.{slice_range}
use Rattle.std.proofs.Math.Seq.{take-add}
use Rattle.std.proofs.lemmas.List.{length-drop, length-take-le, take_at, drop_at, take-append-le, drop-drop, drop-take}
use borrow.Rule.Slice.PartMut.{post_of, put_mid}

pub filled : (bytes read : List ℕ) (end room count : ℕ) → end ≤ length bytes → count ≤ length read
    → take (end + count) (put_mid end room bytes read) ≡ take end bytes ++ take count read
filled bytes read end room count within fits =
    let rest = post_of end room bytes in
    let front = length-take-le end bytes within in
    let first = take_at (take end bytes) (read ++ rest) end front in
    let behind = ap (λ (l : List ℕ). take count l) (drop_at (take end bytes) (read ++ rest) end front) in
    let second = behind ∙ take-append-le count read rest fits in
    take-add end count (put_mid end room bytes read) ∙ ap (λ (l : List ℕ). l ++ take count (drop end (put_mid end room bytes read))) first
    ∙ ap (λ (l : List ℕ). take end bytes ++ l) second

pub dropped : (bytes : List ℕ) (start end count : ℕ) → start ≤ end → end ≤ length bytes
    → count ≤ length (slice_range bytes start end) → slice_range bytes (start + count) end ≡ drop count (slice_range bytes start end)
dropped bytes start end count order within fits =
    let size : length (drop start bytes) ≡ length bytes - start = length-drop start bytes in
    let few : count ≤ end - start = omega (arith, fits, length-take-le (end - start) (drop start bytes) (omega (arith, size, within))) in
    let left : end - start ≡ count + (end - (start + count)) = omega (arith, few) in
    let taken = drop-take count (end - (start + count)) (drop start bytes) in
    let further = drop-drop count start bytes in
    sym (ap (λ (n : ℕ). drop count (take n (drop start bytes))) left ∙ taken
    ∙ ap (λ (l : List ℕ). take (end - (start + count)) l) further)
