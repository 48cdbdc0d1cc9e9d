use Rattle.host_top.proofs.Ends.{pipe_complete, pipe_contents}
use Rattle.host_top.proofs.pipe.run_pipe.Goals as goal

pub returns-clause-contents : goal.returns-clause-contents
returns-clause-contents g c store admin is told =
    pipe_contents g.D.Disk g.S.Source g.K.Sink _ admin c.args.disk.now c.args.input.now _ c.args.output.now _ c.serve_words.result _ (c.serve_words.ensures.ran store admin is) told

pub returns-clause-complete : goal.returns-clause-complete
returns-clause-complete g c store admin ending start is told stands sent read written disk =
    pipe_complete g.D.Disk g.S.Source g.K.Sink _ admin c.args.disk.now c.args.input.now _ c.args.output.now _ c.serve_words.result _ ending start (c.serve_words.ensures.ran store admin is) told stands sent read written disk
