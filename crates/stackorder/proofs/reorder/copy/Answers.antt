-- `stackorder::reorder::copy` meets its contract: seven words are laid. Assumes nothing.
use Prim.Native.Nat.{ℕ, suc, ◌+◌, ◌-◌, ◌≤◌}
use mathlib.Core.{Path.{◌≡◌, refl, ◌∙◌}, List.{List}}
use native.Mathlib.{Omega.{arith}}
use lib.{ListN.{length, drop, take}, Seq.{drop-cons}}
use Rattle.words.{specs.Tokens.{node_length}, proofs.RecordLaws.{laid-part}}
use Rattle.stackorder.specs.Reorder.{node_at}
use Rattle.stackorder.proofs.reorder.copy.Goals as goal

-- The seven words from an index on.
seven : (W : List ℕ) (at k : ℕ) → k ≡ 7 → at + 7 ≤ length W → take k (drop at W) ≡ node_at W at
seven W at k e h =
    let is1 : at + 1 ≡ suc at = omega arith in
    let is2 : at + 2 ≡ suc (suc at) = omega arith in
    let is3 : at + 3 ≡ suc (suc (suc at)) = omega arith in
    let is4 : at + 4 ≡ suc (suc (suc (suc at))) = omega arith in
    let is5 : at + 5 ≡ suc (suc (suc (suc (suc at)))) = omega arith in
    let is6 : at + 6 ≡ suc (suc (suc (suc (suc (suc at))))) = omega arith in
    rw (e, is1, is2, is3, is4, is5, is6, drop-cons W at 0 (omega (arith, h)), drop-cons W (suc at) 0 (omega (arith, h)), drop-cons W (suc (suc at)) 0 (omega (arith, h)), drop-cons W (suc (suc (suc at))) 0 (omega (arith, h)), drop-cons W (suc (suc (suc (suc at)))) 0 (omega (arith, h)), drop-cons W (suc (suc (suc (suc (suc at))))) 0 (omega (arith, h)), drop-cons W (suc (suc (suc (suc (suc (suc at)))))) 0 (omega (arith, h))) refl

pub returns : goal.returns
returns c =
    let a = c.args in
    let from = a.from - node_length in
    laid-part _ _ _ (node_at a.words.now from) _ (omega (arith, c.requires))
    (c.copy_from_slice.ensures.after ∙ seven a.words.now from _ (omega (arith, c.requires)) (omega (arith, c.requires)))
