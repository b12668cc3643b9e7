-- `colour::axes::uv_of` meets its contract: 13 L is at most 16,919,604 and no u' or v' is above 40,000,000, so the shares fit. Assumes nothing.
use Rattle.std.proofs.Common.{ℕ, ◌≡◌, ◌*◌, ◌^◌, ◌≤◌, ◌<◌, arith, rules, w32, ap, ◌∙◌}
use mir.Facts.{to_z-of_z}
use Rattle.cie.specs.declared.Sums.{Sums}
use Rattle.cie.specs.Sums.{White, AtMostTwice}
use Rattle.cie.specs.Colour.{u_over, v_over, uv_under, prime, u_of, v_of, l_at, uv_factor, prime_scale}
use Rattle.cie.proofs.Sizes.{l_size, prime_size}
use Rattle.colour.specs.declared.white.WhitePoint.{WhitePoint}
use Rattle.colour.proofs.Planes.{share_fits, no_coordinate, coordinate_is}
use Rattle.colour.proofs.axes.uv_of.Goals as goal

pub returns-then-is_zero : goal.returns-then-is_zero
unfolding u_of v_of
returns-then-is_zero c =
    let none = no_coordinate (uv_under c.args.s) _ c.uv_under-under.ensures _ c.is_zero.ensures c.if-is_zero.true in
    (none _ _ _ _, none _ _ _ _)

pub overflow_mul-l : goal.overflow_mul-l
overflow_mul-l c = omega (arith, c.requires.3, l_size c.requires.1 c.requires.2)

pub overflow_mul-l-2 : goal.overflow_mul-l-2
overflow_mul-l-2 c = omega (arith, c.requires.3, l_size c.requires.1 c.requires.2)

-- 13 L times u' or v', of the sample or the white
fits : {w s : Sums} {l m : ℕ} → White w → AtMostTwice w s → l ≡ l_at 1 w s → (A S : ℕ) → m ≡ prime A S → A ≤ 4 * S →
    uv_factor * l * m < 2 ^ 31 * prime_scale
fits {w} {s} {l} {m} W T f A S e h = share_fits l (l_at 1 w s) m (prime A S) f e (l_size W T) (prime_size A S h)

pub share-requires : goal.share-requires
share-requires c =
    let s = c.args.s in
    let w = c.args.white.sums in
    let p = c.requires in (
      fits p.1 p.2 p.3 (u_over s) (uv_under s) (c.prime-u.ensures ∙ ap (prime (u_over s)) c.uv_under-under.ensures) (omega arith),
      fits p.1 p.2 p.3 (u_over w) (uv_under w) (ap (λ (x : WhitePoint). x.u) p.0) (omega arith),
    )

pub share-requires-2 : goal.share-requires-2
share-requires-2 c =
    let s = c.args.s in
    let w = c.args.white.sums in
    let p = c.requires in (
      fits p.1 p.2 p.3 (v_over s) (uv_under s) (c.prime-v.ensures ∙ ap (prime (v_over s)) c.uv_under-under.ensures) (omega arith),
      fits p.1 p.2 p.3 (v_over w) (uv_under w) (ap (λ (x : WhitePoint). x.v) p.0) (omega arith),
    )

pub returns : goal.returns
unfolding u_of v_of
returns c =
    let s = c.args.s in
    let p = c.requires in
    let u = c.prime-u.ensures ∙ ap (prime (u_over s)) c.uv_under-under.ensures in
    let v = c.prime-v.ensures ∙ ap (prime (v_over s)) c.uv_under-under.ensures in
    let is = coordinate_is (uv_under s) _ c.uv_under-under.ensures _ c.is_zero.ensures c.if-is_zero.false in (
      to_z-of_z {w = w32} (search rules) ∙ is _ _ _ _ _ _ _ _ p.3 u (ap (λ (x : WhitePoint). x.u) p.0) c.share.ensures,
      to_z-of_z {w = w32} (search rules) ∙ is _ _ _ _ _ _ _ _ p.3 v (ap (λ (x : WhitePoint). x.v) p.0) c.share-2.ensures,
    )
