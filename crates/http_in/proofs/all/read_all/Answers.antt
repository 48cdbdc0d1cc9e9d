use Rattle.std.proofs.Common.{◌≡◌, ℕ, ◌-◌, ◌^◌, arith, subst, refl, ◌∙◌}
use Rattle.http_in.specs.declared.all.Outcome.TheVariants.{Unread}
use Rattle.http_in.specs.Readings.{AllRead}
use Rattle.http_in.proofs.ReadingFacts.{requests_none, all_more, all_by_body, all_end, all_cut, all_bad, all_large, all_fault, all_memory, all_unread}
use Rattle.http_in.proofs.all.read_all.Goals as goal

pub requests-init : goal.requests-init
requests-init g c = record {
  standing = c.requires.between;
  so_far = requests_none g.S.Source.given g.S.Source.left c.args.source.now c.args.reader.now.held c.args.content.now.items;
  faults_are = refl;
}

pub requests-preserved : goal.requests-preserved
requests-preserved g c = record {
  standing = c.in-Done.ensures.done refl;
  so_far = all_more g.S.Source.given g.S.Source.left c.args.source.now c.requests.source c.next.new.source c.read_content-end.new.source
      c.args.reader.now.held c.requests.reader.held c.next.new.self.held c.read_content-end.new.reader.held c.args.content.now.items
      c.requests.content.items c.read_content-end.new.content.items c.requests.whole c.in-Head._head c.next.new.self.state
      c.requests.invariant.so_far c.in-Head.ensures.step c.in-Head.ensures.state c.in-Done.ensures.read;
  faults_are = c.in-Done.ensures.told (λ e. cc) ∙ c.in-Head.ensures.told (λ e. cc) ∙ c.requests.invariant.faults_are;
}

pub returns-in_default-clause-read : goal.returns-in_default-clause-read
returns-in_default-clause-read g c =
    all_by_body g.S.Source.given g.S.Source.left c.args.source.now c.requests.source c.next.new.source c.read_content-end.new.source
    c.args.reader.now.held c.requests.reader.held c.next.new.self.held c.read_content-end.new.reader.held c.args.content.now.items
    c.requests.content.items c.read_content-end.new.content.items c.requests.whole c.in-Head._head c.next.new.self.state
    c.requests.invariant.so_far c.in-Head.ensures.step c.in-Head.ensures.state c.read_content-end.result c.read_content-end.ensures.read
    c.in_default.not-Done

pub returns-in-End-clause-read : goal.returns-in-End-clause-read
returns-in-End-clause-read g c =
    all_end g.S.Source.given g.S.Source.left c.args.source.now c.requests.source c.next.new.source c.args.reader.now.held c.requests.reader.held c.next.new.self.held
    c.args.content.now.items c.requests.content.items c.requests.whole c.requests.invariant.so_far c.in-End.ensures.step

pub returns-in-Cut-clause-read : goal.returns-in-Cut-clause-read
returns-in-Cut-clause-read g c =
    all_cut g.S.Source.given g.S.Source.left c.args.source.now c.requests.source c.next.new.source c.args.reader.now.held c.requests.reader.held c.next.new.self.held
    c.args.content.now.items c.requests.content.items c.requests.whole c.requests.invariant.so_far c.in-Cut.ensures.step

pub returns-in-Bad-clause-read : goal.returns-in-Bad-clause-read
returns-in-Bad-clause-read g c =
    all_bad g.S.Source.given g.S.Source.left c.args.source.now c.requests.source c.next.new.source c.args.reader.now.held c.requests.reader.held c.next.new.self.held
    c.args.content.now.items c.requests.content.items c.requests.whole c.requests.invariant.so_far c.in-Bad.ensures.step

pub returns-in-HeadTooLarge-clause-read : goal.returns-in-HeadTooLarge-clause-read
returns-in-HeadTooLarge-clause-read g c =
    all_large g.S.Source.given g.S.Source.left c.args.source.now c.requests.source c.next.new.source c.args.reader.now.held c.requests.reader.held c.next.new.self.held
    c.args.content.now.items c.requests.content.items c.requests.whole c.requests.invariant.so_far c.in-HeadTooLarge.ensures.step

pub returns-in-ReadFault-clause-read : goal.returns-in-ReadFault-clause-read
returns-in-ReadFault-clause-read g c =
    all_fault g.S.Source.given g.S.Source.left c.args.source.now c.requests.source c.next.new.source c.args.reader.now.held c.requests.reader.held c.next.new.self.held
    c.args.content.now.items c.requests.content.items c.requests.whole c.requests.invariant.so_far c.in-ReadFault.ensures.step

pub returns-in-NoMemory-clause-read : goal.returns-in-NoMemory-clause-read
returns-in-NoMemory-clause-read g c =
    all_memory g.S.Source.given g.S.Source.left c.args.source.now c.requests.source c.next.new.source c.args.reader.now.held c.requests.reader.held c.next.new.self.held
    c.args.content.now.items c.requests.content.items c.requests.whole c.requests.invariant.so_far c.in-NoMemory.ensures.step

pub returns-clause-read : goal.returns-clause-read
returns-clause-read g c =
    let all : c.requests.whole ≡ 2 ^ 64 - 1 = omega (arith, c.requests.auto.whole-end, c.requests-test.false) in
    let P : ℕ → Type 0 = λ n. AllRead g.S.Source.given g.S.Source.left c.args.source.now c.requests.source c.args.reader.now.held
    c.args.content.now.items c.requests.content.items n Unread in
    subst P all (all_unread g.S.Source.given g.S.Source.left c.args.source.now c.requests.source c.args.reader.now.held c.requests.reader.held
    c.args.content.now.items c.requests.content.items c.requests.whole c.requests.invariant.so_far all)
