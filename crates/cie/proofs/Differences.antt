-- E in CIELAB is never below the difference of L: that difference is one of those whose squares it sums. Assumes nothing.
use Prim.Native.Nat.{◌≤◌}
use native.Mathlib.Omega.{arith}
use Rattle.signed.specs.Apart.{distance, apart}
use Rattle.wide.proofs.Greatest.{square_root_above}
use Rattle.cie.specs.declared.Colour.{Colour}
use Rattle.cie.specs.Colour.{squares, lab_difference}

pub lab_above_l : (p q : Colour) → distance p.l q.l ≤ (lab_difference p q).0
unfolding lab_difference
lab_above_l p q = square_root_above (squares (distance p.l q.l) (apart p.a q.a) (apart p.b q.b)) (distance p.l q.l) (omega arith)
