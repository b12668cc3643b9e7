-- The checks run in their order, and the white by weights is the paper's. Assumes nothing.
use Rattle.std.proofs.Common.{sym}
use Rattle.causes.proofs.Checks.{fires}
use Rattle.cie.specs.Sums.{tables_of}
use Rattle.conditions.proofs.Answers.{refused_as}
use Rattle.conditions.proofs.Preparing.{ends_short, ends_off_scale, weighed, ends_dark, ends_lopsided, opens}
use Rattle.conditions.proofs.prepare.Goals as goal

pub returns-then-is_unknown : goal.returns-then-is_unknown
returns-then-is_unknown c = refused_as _ (fires _ _ _ _ _ (sym c.if-is_unknown.ensures))

pub returns-then-any_short : goal.returns-then-any_short
returns-then-any_short c =
    let a = c.args in
    ends_short (tables_of a.spacing a.illuminant.now a.x.now a.y.now a.z.now) c.rows_at-rows.ensures.0 c.if-is_unknown.ensures c.if-any_short.ensures

pub returns-then-any_off_scale : goal.returns-then-any_off_scale
returns-then-any_off_scale c =
    let a = c.args in
    ends_off_scale (tables_of a.spacing a.illuminant.now a.x.now a.y.now a.z.now) c.rows_at-rows.ensures.0 c.if-is_unknown.ensures
    c.if-any_short.ensures c.if-any_off_scale.ensures

pub white_of-white-requires : goal.white_of-white-requires
white_of-white-requires c =
    let a = c.args in
    weighed (tables_of a.spacing a.illuminant.now a.x.now a.y.now a.z.now) c.rows_at-rows.ensures.0 c.if-is_unknown.ensures
    c.if-any_short.ensures c.if-any_off_scale.ensures c.weights_of-wx.ensures c.weights_of-wy.ensures c.weights_of-wz.ensures

pub returns-then-is_dark : goal.returns-then-is_dark
returns-then-is_dark c =
    let a = c.args in
    ends_dark (tables_of a.spacing a.illuminant.now a.x.now a.y.now a.z.now) c.rows_at-rows.ensures.0 c.if-is_unknown.ensures
    c.if-any_short.ensures c.if-any_off_scale.ensures c.weights_of-wx.ensures c.weights_of-wy.ensures c.weights_of-wz.ensures
    c.white_of-white.ensures c.if-is_dark.ensures

pub returns-then-is_lopsided : goal.returns-then-is_lopsided
returns-then-is_lopsided c =
    let a = c.args in
    ends_lopsided (tables_of a.spacing a.illuminant.now a.x.now a.y.now a.z.now) c.rows_at-rows.ensures.0 c.if-is_unknown.ensures
    c.if-any_short.ensures c.if-any_off_scale.ensures c.weights_of-wx.ensures c.weights_of-wy.ensures c.weights_of-wz.ensures
    c.white_of-white.ensures c.if-is_dark.ensures c.if-is_lopsided.ensures

pub returns : goal.returns
returns c =
    let a = c.args in
    opens (tables_of a.spacing a.illuminant.now a.x.now a.y.now a.z.now) c.rows_at-rows.ensures.0 c.if-is_unknown.ensures
    c.if-any_short.ensures c.if-any_off_scale.ensures c.weights_of-wx.ensures c.weights_of-wy.ensures c.weights_of-wz.ensures
    c.white_of-white.ensures c.if-is_dark.ensures c.if-is_lopsided.ensures c.white_point.ensures
