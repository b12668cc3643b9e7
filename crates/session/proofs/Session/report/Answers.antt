-- The tallies are the session's own, table by table.
use Rattle.std.proofs.Common.{List, map, ap}
use Rattle.tallies.specs.declared.Tallies.{Tallies}
use Rattle.session.specs.Outcome.{counted}
use Rattle.session.specs.Served.{counts_of}
use Rattle.session.proofs.Valid.{meets}
use Rattle.session.proofs.Session.report.Goals as goal

pub returns : goal.returns
returns c =
    meets _ _ _ c.requires
    (ap (λ (sets : List Tallies). record { session = c.args.self; outcome = counted (record { sets = map counts_of sets }) }) c.each-tallies.ensures)
