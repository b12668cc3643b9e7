-- Bytes that are moved down, and zeros behind them. Assumes nothing.
use mathlib.Core.Path.{◌≡◌, sym, ap, ◌∙◌}
use Prim.Native.Nat.{ℕ, ◌+◌, ◌-◌, ◌≤◌}
use native.Mathlib.Omega.{arith}
use mathlib.Core.List.{List, ◌++◌}
use lib.ListN.{length, take, drop, replicate, length-drop}
use lib.Seq.{take_all, length-take-le}
use Rattle.std.specs.List.{copy_within}
use Rattle.std.proofs.Math.Seq.{paste}
use Rattle.std.proofs.lemmas.List.Edits.{take-paste}
use Rattle.stores.proofs.Runs.{lent_end}

-- the end of a buffer, moved down to a place
pub moved : (d : List ℕ) (at n : ℕ) → at + n ≤ length d → take (length d - n) (copy_within d (at + n) (length d) at) ≡ take at d ++ drop (at + n) d
moved d at n h =
    let rest : List ℕ = drop (at + n) d in
    let m : ℕ = length d - (at + n) in
    let long : length rest ≡ m = length-drop (at + n) d in
    let kept : length d - n ≡ at + m = omega arith in
    ap (λ (i : ℕ). take i (paste d at rest m)) kept ∙ take-paste d at rest m (omega arith) (omega arith)
    ∙ ap (λ (l : List ℕ). take at d ++ l) (take_all m rest (omega arith))

-- then zeros in the part that is lent from the end of what is kept
pub cleared : (d : List ℕ) (n : ℕ) → n ≤ length d → (zs : List ℕ) (a k : ℕ) → a ≡ length d - n → k ≡ length d - a
    → zs ≡ replicate (length (take k (drop a d))) 0 → take a d ++ (zs ++ drop k (drop a d)) ≡ take (length d - n) d ++ replicate n 0
cleared d n h zs a k p q e =
    let zeros : length (take k (drop a d)) ≡ n = length-take-le k (drop a d) (omega (arith, length-drop a d)) ∙ omega arith in
    lent_end d zs a k (sym q) ∙ rw (e, zeros, p)
