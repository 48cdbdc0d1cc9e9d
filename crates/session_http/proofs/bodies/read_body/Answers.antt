use Rattle.std.proofs.Common.{ℕ, [], ◌++◌, List, refl, ◌∙◌, length-append, take, arith, vec_capacity}
use Rattle.std.proofs.lemmas.List.{length-take-le}
use Rattle.http_in.proofs.ReadingFacts.{place_inside, content_none, content_more, read_done, read_cut, read_bad, read_large, read_fault, read_none}
use Rattle.session_http.proofs.Kept.{few_none, gone_on, gone_unkept, gone_whole, holds_gone, holds_whole}
use Rattle.session_http.proofs.bodies.read_body.Goals as goal
use Rattle.session_http.proofs.bodies.read_body.Goals.{then-keeps, else-keeps}

pub portions-init : goal.portions-init
portions-init g c =
    let at = place_inside c.args.reader.now.state c.requires.inside in
    record {
      so_far = record {
        content = [];
        so_far = content_none g.S.Source.given g.S.Source.left c.args.source.now c.args.reader.now.held [] c.args.reader.now.state at.0 at.1;
        holds = elim c.if-keeps.branch [
          | then-keeps w ↦ holds_whole c.if-keeps.body c.args.buffer.now.items w.body-is c.requires.empty
          | else-keeps w ↦ holds_gone c.if-keeps.body c.args.buffer.now.items w.body-is
        ];
        gone = elim c.if-keeps.branch [
          | then-keeps w ↦ gone_whole c.args.keeps (vec_capacity c.args.buffer.now) c.if-keeps.body w.body-is
          | else-keeps w ↦ gone_unkept c.args.keeps (vec_capacity c.args.buffer.now) c.if-keeps.body w.body-is w.if-keeps.false
        ];
        many = omega arith;
      };
      room = omega arith;
      few = few_none c.args.buffer.now.items c.requires.empty;
      place = refl;
      faults_are = refl;
    }

pub portions-preserved : goal.portions-preserved
portions-preserved g c =
    let so = c.portions.invariant.so_far in
    let more : List ℕ = take c.in-Bytes.count c.body.new.buf in
    let fits = c.in-Bytes.ensures.fits in
    record {
      so_far = record {
        content = so.content ++ more;
        so_far = content_more g.S.Source.given g.S.Source.left c.args.source.now c.portions.source c.body.new.source c.args.reader.now.held
            c.portions.reader.held c.body.new.self.held c.args.reader.now.state c.portions.reader.state c.body.new.self.state
            [] so.content (so.content ++ more) c.body.new.buf c.in-Bytes.count so.so_far c.in-Bytes.ensures.step refl;
        holds = c.keep-body.ensures.more so.content so.holds;
        gone = gone_on c.args.keeps (vec_capacity c.args.buffer.now) (vec_capacity c.portions.buffer) c.portions.body c.keep-body.result c.portions.buffer.items
            so.content more c.portions.invariant.room so.holds so.gone c.keep-body.ensures.loses;
        many = omega (arith, so.many, fits.0, length-take-le c.in-Bytes.count c.body.new.buf fits.1, length-append so.content more);
      };
      room = omega (arith, c.portions.invariant.room, c.keep-body.ensures.room);
      few = c.keep-body.ensures.few;
      place = c.body.ensures.place ∙ c.portions.invariant.place;
      faults_are = c.in-Bytes.ensures.told (λ e. cc) ∙ c.portions.invariant.faults_are;
    }

pub returns-in-Done-clause-read : goal.returns-in-Done-clause-read
returns-in-Done-clause-read g c =
    let so = c.portions.invariant.so_far in
    record {
      content = so.content;
      read = read_done g.S.Source.given g.S.Source.left c.args.source.now c.portions.source c.body.new.source c.args.reader.now.held
          c.portions.reader.held c.body.new.self.held c.args.reader.now.state c.portions.reader.state c.body.new.self.state
          [] so.content so.so_far c.body.new.buf c.in-Done.ensures.step;
      holds = so.holds;
      gone = so.gone;
      many = λ e. cc;
    }

pub returns-in-Cut-clause-read : goal.returns-in-Cut-clause-read
returns-in-Cut-clause-read g c =
    let so = c.portions.invariant.so_far in
    record {
      content = so.content;
      read = read_cut g.S.Source.given g.S.Source.left c.args.source.now c.portions.source c.body.new.source c.args.reader.now.held
          c.portions.reader.held c.body.new.self.held c.args.reader.now.state c.portions.reader.state c.body.new.self.state
          [] so.content so.so_far c.body.new.buf c.in-Cut.ensures.step;
      holds = so.holds;
      gone = so.gone;
      many = λ e. cc;
    }

pub returns-in-Bad-clause-read : goal.returns-in-Bad-clause-read
returns-in-Bad-clause-read g c =
    let so = c.portions.invariant.so_far in
    record {
      content = so.content;
      read = read_bad g.S.Source.given g.S.Source.left c.args.source.now c.portions.source c.body.new.source c.args.reader.now.held
          c.portions.reader.held c.body.new.self.held c.args.reader.now.state c.portions.reader.state c.body.new.self.state
          [] so.content so.so_far c.body.new.buf c.in-Bad.ensures.step;
      holds = so.holds;
      gone = so.gone;
      many = λ e. cc;
    }

pub returns-in-TooLarge-clause-read : goal.returns-in-TooLarge-clause-read
returns-in-TooLarge-clause-read g c =
    let so = c.portions.invariant.so_far in
    record {
      content = so.content;
      read = read_large g.S.Source.given g.S.Source.left c.args.source.now c.portions.source c.body.new.source c.args.reader.now.held
          c.portions.reader.held c.body.new.self.held c.args.reader.now.state c.portions.reader.state c.body.new.self.state
          [] so.content so.so_far c.body.new.buf c.in-TooLarge.ensures.step;
      holds = so.holds;
      gone = so.gone;
      many = λ e. cc;
    }

pub returns-in-ReadFault-clause-read : goal.returns-in-ReadFault-clause-read
returns-in-ReadFault-clause-read g c =
    let so = c.portions.invariant.so_far in
    record {
      content = so.content;
      read = read_fault g.S.Source.given g.S.Source.left c.args.source.now c.portions.source c.body.new.source c.args.reader.now.held
          c.portions.reader.held c.body.new.self.held c.args.reader.now.state c.portions.reader.state c.body.new.self.state
          [] so.content so.so_far c.body.new.buf c.in-ReadFault.ensures.step;
      holds = so.holds;
      gone = so.gone;
      many = λ e. cc;
    }

pub unreachable-requires : goal.unreachable-requires
unreachable-requires g c = c.in-NoMemory.ensures.step.call.step_is

pub returns-clause-read : goal.returns-clause-read
returns-clause-read g c =
    let so = c.portions.invariant.so_far in
    record {
      content = so.content;
      read = read_none g.S.Source.given g.S.Source.left c.args.source.now c.portions.source c.args.reader.now.held c.portions.reader.held
          c.args.reader.now.state c.portions.reader.state [] so.content so.so_far;
      holds = so.holds;
      gone = so.gone;
      many = λ e. omega (arith, so.many, c.portions-test.false);
    }
