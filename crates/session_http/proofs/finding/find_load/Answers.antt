use Rattle.session_http.proofs.finding.find_load.Goals as goal

pub returns-in-Ok-clause-file : goal.returns-in-Ok-clause-file
returns-in-Ok-clause-file g c = rw c.in-Ok.ensures.point.shown at c.load_of.ensures.file
