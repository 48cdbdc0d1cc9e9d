use Rattle.std.proofs.Common.{List, ℕ, ◌++◌, take, length, refl, sym, subst, ap, arith, length-append, ◌∙◌}
use Rattle.std.proofs.lemmas.List.{length-take-le}
use Rattle.http_in.specs.declared.all.BodyEnd.TheVariants.{NoMemory}
use Rattle.http_in.specs.Readings.{ContentRead}
use Rattle.http_in.proofs.ReadingFacts.{place_inside, content_none, content_more, read_done, read_cut, read_bad, read_large, read_fault, read_memory, read_lost}
use Rattle.http_in.proofs.all.read_content.Goals as goal

pub portions-init : goal.portions-init
portions-init g c =
    let at = place_inside c.args.reader.now.state c.requires.inside in
    record {
      so_far = content_none g.S.Source.given g.S.Source.left c.args.source.now c.args.reader.now.held c.args.content.now.items c.args.reader.now.state at.0 at.1;
      faults_are = refl;
      many = omega arith;
    }

pub portions-preserved : goal.portions-preserved
portions-preserved g c =
    let so = c.portions.invariant in
    let fits = c.in-Bytes.ensures.fits in
    let portion : List ℕ = take c.in-Bytes.count c.body.new.buf in
    let content : List ℕ = c.portions.content.items in
    record {
      so_far = content_more g.S.Source.given g.S.Source.left c.args.source.now c.portions.source c.body.new.source c.args.reader.now.held
          c.portions.reader.held c.body.new.self.held c.args.reader.now.state c.portions.reader.state c.body.new.self.state
          c.args.content.now.items content c.extend_from_slice.new.self.items c.body.new.buf c.in-Bytes.count
          so.so_far c.in-Bytes.ensures.step c.in-Ok.ensures.items;
      faults_are = c.in-Bytes.ensures.told (λ e. cc) ∙ so.faults_are;
      many = omega (
        arith,
        so.many,
        fits.0,
        length-take-le c.in-Bytes.count c.body.new.buf fits.1,
        ap length {y = content ++ portion} c.in-Ok.ensures.items,
        length-append content portion,
      );
    }

pub returns-in_default-clause-read : goal.returns-in_default-clause-read
returns-in_default-clause-read g c =
    let lost = read_lost g.S.Source.given g.S.Source.left c.args.source.now c.portions.source c.body.new.source c.args.reader.now.held
    c.portions.reader.held c.body.new.self.held c.args.reader.now.state c.portions.reader.state c.body.new.self.state
    c.args.content.now.items c.portions.content.items c.portions.invariant.so_far c.body.new.buf c.in-Bytes.count
    c.in-Bytes.ensures.fits.0 c.in-Bytes.ensures.fits.1 c.in-Bytes.ensures.step in
    let P : List ℕ → Type 0 = λ b. ContentRead g.S.Source.given g.S.Source.left c.args.source.now c.body.new.source c.args.reader.now.held
    c.body.new.self.held c.args.reader.now.state c.args.content.now.items b NoMemory in
    subst P (sym {A = List ℕ} {b = c.portions.content.items} c.in_default.ensures.items) lost

pub returns-in-Done-clause-read : goal.returns-in-Done-clause-read
returns-in-Done-clause-read g c =
    read_done g.S.Source.given g.S.Source.left c.args.source.now c.portions.source c.body.new.source c.args.reader.now.held
    c.portions.reader.held c.body.new.self.held c.args.reader.now.state c.portions.reader.state c.body.new.self.state
    c.args.content.now.items c.portions.content.items c.portions.invariant.so_far c.body.new.buf c.in-Done.ensures.step

pub returns-in-Cut-clause-read : goal.returns-in-Cut-clause-read
returns-in-Cut-clause-read g c =
    read_cut g.S.Source.given g.S.Source.left c.args.source.now c.portions.source c.body.new.source c.args.reader.now.held
    c.portions.reader.held c.body.new.self.held c.args.reader.now.state c.portions.reader.state c.body.new.self.state
    c.args.content.now.items c.portions.content.items c.portions.invariant.so_far c.body.new.buf c.in-Cut.ensures.step

pub returns-in-Bad-clause-read : goal.returns-in-Bad-clause-read
returns-in-Bad-clause-read g c =
    read_bad g.S.Source.given g.S.Source.left c.args.source.now c.portions.source c.body.new.source c.args.reader.now.held
    c.portions.reader.held c.body.new.self.held c.args.reader.now.state c.portions.reader.state c.body.new.self.state
    c.args.content.now.items c.portions.content.items c.portions.invariant.so_far c.body.new.buf c.in-Bad.ensures.step

pub returns-in-TooLarge-clause-read : goal.returns-in-TooLarge-clause-read
returns-in-TooLarge-clause-read g c =
    read_large g.S.Source.given g.S.Source.left c.args.source.now c.portions.source c.body.new.source c.args.reader.now.held
    c.portions.reader.held c.body.new.self.held c.args.reader.now.state c.portions.reader.state c.body.new.self.state
    c.args.content.now.items c.portions.content.items c.portions.invariant.so_far c.body.new.buf c.in-TooLarge.ensures.step

pub returns-in-ReadFault-clause-read : goal.returns-in-ReadFault-clause-read
returns-in-ReadFault-clause-read g c =
    read_fault g.S.Source.given g.S.Source.left c.args.source.now c.portions.source c.body.new.source c.args.reader.now.held
    c.portions.reader.held c.body.new.self.held c.args.reader.now.state c.portions.reader.state c.body.new.self.state
    c.args.content.now.items c.portions.content.items c.portions.invariant.so_far c.body.new.buf c.in-ReadFault.ensures.step

pub returns-in-NoMemory-clause-read : goal.returns-in-NoMemory-clause-read
returns-in-NoMemory-clause-read g c =
    read_memory g.S.Source.given g.S.Source.left c.args.source.now c.portions.source c.body.new.source c.args.reader.now.held
    c.portions.reader.held c.body.new.self.held c.args.reader.now.state c.portions.reader.state c.body.new.self.state
    c.args.content.now.items c.portions.content.items c.portions.invariant.so_far c.body.new.buf c.in-NoMemory.ensures.step
