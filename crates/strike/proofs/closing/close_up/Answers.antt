-- `strike::closing::close_up` meets its contract: what stands before, what is moved down, then zeros to the end. Assumes nothing.
use Rattle.std.proofs.Common.{ℕ, List, ◌-◌, ◌++◌, ◌≡◌, ◌∙◌, length, take, replicate, refl, ap, arith}
use Rattle.strike.proofs.Moves.{moved, cleared}
use Rattle.strike.proofs.closing.close_up.Goals as goal

pub returns : goal.returns
returns c =
    let d = c.args.buffer.now in
    let n = c.args.n in
    let down = c.copy_within.new.self in
    let same : length down ≡ length d = c.copy_within.ensures.len in
    cleared down n (omega (arith, c.requires)) c.fill.new.self (length d - n) (length down - (length d - n)) (omega arith) refl
    (c.fill.ensures.after (λ y h. h))
    ∙ ap (λ (i : ℕ). take (i - n) down ++ replicate n 0) same
    ∙ ap (λ (l : List ℕ). take (length d - n) l ++ replicate n 0) c.copy_within.ensures.after
    ∙ ap (λ (l : List ℕ). l ++ replicate n 0) (moved d c.args.at n c.requires)
