-- What one call of the port means for a request.
use Rattle.std.proofs.Common.{◌≡◌, ℕ, ◌≤◌, List, [], ◌∷◌, ◌++◌, length, Bool, true, false, IsTrue, Option, None, Some, option_and_then, refl, sym, ◌∙◌, ap, append-nil, arith}
use Rattle.fh_model.specs.declared.commands.Act.{Act}
use Rattle.fh_model.specs.declared.commands.Act.TheVariants.{MakeFolder, Upload}
use Rattle.fh_model.specs.declared.commands.Cmd.{Cmd}
use Rattle.fh_model.specs.declared.files.FileMeta.{FileMeta}
use Rattle.fh_model.specs.declared.names.Name.{Name}
use Rattle.fh_model.specs.declared.replies.Reply.{Reply}
use Rattle.fh_model.specs.Content.{size_of}
use Rattle.fh_model.specs.History.{Kept, state_of, state_after, with_more, next_of, reply_of, entered}
use Rattle.fh_model.specs.KeptFiles.{IsKept}
use Rattle.fh_model.specs.Pieces.{SamePieces, data_of, end_in}
use Rattle.fh_model.specs.Resolve.{resolve}
use Rattle.fh_model.specs.State.{State, token_user}
use Rattle.fh_model.specs.Step.{step}
use Rattle.fh_model.proofs.Runs.{with_nothing, state_more, reply_more, next_more}
use Rattle.host_seat.specs.Port.{Commits, Looks, OthersEnter, OfBoth, KeepsPieces, PutsData, Leaves, placed_at}
use Rattle.host_seat.proofs.PortLaws.{both_map, keeps_same}
use Rattle.api_types.specs.declared.answer.Answer.{Answer}
use Rattle.api_types.specs.declared.route.Route.{Route}
use Rattle.session_rules.specs.Connection.{cmd_of, cmd_with, entered_by, put_by}
use Rattle.session_rules.specs.Decisions.{Called, called, called_by, Decision, says, enters, loads, looks}
use Rattle.session_rules.specs.Judged.{IsCalled}
use Rattle.session_rules.specs.Replies.{Said, answered, answer_to, answer_to_look, load_of, pieces_in, said_by, size_in, text_of}
use Rattle.session_rules.specs.declared.deciding.Caller.TheVariants as caller
use Rattle.session_rules.specs.declared.loading.Load.TheVariants as load
use Rattle.session_rules.proofs.Blocks.{put_same}
use Rattle.session_http.specs.declared.answering.Answered.{Answered}
use Rattle.session_http.specs.declared.answering.Answered.TheVariants.{Text, Content}
use Rattle.session_http.specs.Points.{Calls, Acts, Answers, IsHeadOfFile, IsText, Misses, IsStuck}

with_others : (old new : Kept) (others : List Cmd) → new ≡ with_more old others → new ≡ with_more old (others ++ [])
with_others old new others e = e ∙ ap (with_more old) (sym (append-nil others))

-- ---- who calls

pub calls_still : (alone : Bool) (admin : List ℕ) (old : Kept) (method target : List ℕ) (token : Option (List ℕ)) (it : Called)
    → called admin (state_of old) method target token ≡ it → Calls alone admin old old method target token (Some it)
calls_still alone admin old method target token it is = record { others = []; grown = with_nothing old; is = is; mine = λ _. refl }

-- the token is there, and the user is whose it is
pub calls_bearer : (alone : Bool) (admin : List ℕ) (old new : Kept) (method target : List ℕ) (token : Option (List ℕ)) (route : Route) (user : Option ℕ)
    → OthersEnter alone old new → IsCalled (caller.Bearer route) (state_of new) token (called admin (state_of new) method target token)
    → user ≡ option_and_then (token_user (state_of new)) token → Calls alone admin old new method target token (Some (called_by route user))
calls_bearer alone admin old new method target token route user h by is =
    let found : user ≡ token_user (state_of new) by.0 = is ∙ ap (option_and_then (token_user (state_of new))) by.1 in
    record { others = h.others; grown = h.grown; is = by.2 ∙ ap (called_by route) (sym found); mine = h.mine }

pub calls_missed : (alone : Bool) (admin : List ℕ) (old new : Kept) (method target : List ℕ) (token : Option (List ℕ)) → OthersEnter alone old new
    → Calls alone admin old new method target token None
calls_missed alone admin old new method target token h = record { others = h.others; grown = h.grown; is = tt; mine = h.mine }

-- ---- what becomes of the block file

-- its pieces stayed as they were, and nothing entered
still : (s : State) (x y : Option (List ℕ)) → KeepsPieces s x y → OfBoth (λ before after. end_in s ≤ length before → SamePieces s after before) x y
still s x y keeps =
    both_map (λ before after. SamePieces s after before) (λ before after. end_in s ≤ length before → SamePieces s after before) x y
    (λ before after same _. same) keeps

put_both : (seat at : ℕ) (s : State) (act : Act) (bytes : List ℕ) (x y : Option (List ℕ)) → PutsData s (cmd_of seat at act) bytes x y → KeepsPieces s x y
    → OfBoth (λ before after. end_in s ≤ length before
    → SamePieces (state_after s (entered_by seat at s (enters act bytes))) after (put_by seat at s before (enters act bytes))) x y
put_both seat at s act bytes None None puts keeps = tt
put_both seat at s act bytes (Some b) (Some c) puts keeps = λ short. put_same seat at s act bytes b c short keeps puts
put_both seat at s act bytes None (Some c) puts keeps = keeps
put_both seat at s act bytes (Some b) None puts keeps = keeps

-- ---- what is told

acts_said : (alone : Bool) (seat at : ℕ) (old : Kept) (x : Option (List ℕ)) (it : Said) (close : Bool) (text : List ℕ) → text ≡ text_of it close
    → Acts alone seat at old old x x (says it) close text
acts_said alone seat at old x it close text told = record {
  others = [];
  says = told;
  none = refl;
  empty = refl;
  grown = with_nothing old;
  mine = λ _. refl;
  puts = λ _. still (state_of old) x x (keeps_same (state_of old) x x refl);
}

-- a text is answered
pub answers_text : (alone : Bool) (seat at : ℕ) (old new : Kept) (x y : Option (List ℕ)) (d : Decision) (close : Bool) (bytes : List ℕ)
    → ((text : List ℕ) → text ≡ bytes → Acts alone seat at old new x y d close text) → (answered : Answered) → IsText bytes answered
    → Answers alone seat at old new x y d close answered
answers_text alone seat at old new x y d close bytes acts (Text text) is = acts text.items is
answers_text alone seat at old new x y d close bytes acts (Content head rev count) is = absurd is

pub answers_said : (alone : Bool) (seat at : ℕ) (old : Kept) (x : Option (List ℕ)) (it : Said) (close : Bool) (answered : Answered) → IsText (text_of it close) answered
    → Answers alone seat at old old x x (says it) close answered
answers_said alone seat at old x it close answered is =
    answers_text alone seat at old old x x (says it) close (text_of it close) (acts_said alone seat at old x it close) answered is

-- what a look shows is behind what others entered
pub others_looked : (alone : Bool) (old new image : Kept) → Looks alone old new image → OthersEnter alone old new
others_looked alone old new image h = record { others = h.others; grown = h.grown; mine = h.mine }

state_behind : (alone : Bool) (old new : Kept) → (h : OthersEnter alone old new) → state_of new ≡ state_after (state_of old) h.others
state_behind alone old new h = ap state_of h.grown ∙ state_more old h.others

module _ (alone : Bool) (seat at : ℕ) (old new : Kept) (x y : Option (List ℕ)) (user : ℕ) (path : List ℕ) (close : Bool) (h : OthersEnter alone old new) (same : y ≡ x) where
  pub acts_looked : (text : List ℕ) (answer : Answer) → answer ≡ answer_to_look (resolve (state_of new) user path) → text ≡ text_of (answered answer) close
      → Acts alone seat at old new x y (looks user path) close text
  acts_looked text answer is told = record {
    others = h.others;
    says = told ∙ ap (λ a. text_of (answered a) close) (is ∙ ap (λ s. answer_to_look (resolve s user path)) (state_behind alone old new h));
    none = refl;
    empty = refl;
    grown = with_others old new h.others h.grown;
    mine = h.mine;
    puts = λ _. still (state_of old) x y (keeps_same (state_of old) x y same);
  }

  -- no content stands there
  pub acts_not_loaded : (text : List ℕ) (answer : Answer) → load.Answered answer ≡ load_of (resolve (state_of new) user path) → text ≡ text_of (answered answer) close
      → Acts alone seat at old new x y (loads user path) close text
  acts_not_loaded text answer is told =
      let there = is ∙ ap (λ s. load_of (resolve s user path)) (state_behind alone old new h) in
      record {
        others = h.others;
        says = told ∙ ap (λ l. text_of (said_by [] l) close) there;
        none = sym (ap pieces_in there);
        empty = sym (ap size_in there);
        grown = with_others old new h.others h.grown;
        mine = h.mine;
        puts = λ _. still (state_of old) x y (keeps_same (state_of old) x y same);
      }

  -- a file does
  pub answers_file : (answered : Answered) (names : List Name) (meta : FileMeta) → load.File names meta ≡ load_of (resolve (state_of new) user path)
      → IsKept (state_of new) meta → meta.size ≡ size_of meta.pieces → IsHeadOfFile names meta close answered
      → Answers alone seat at old new x y (loads user path) close answered
  answers_file (Text text) names meta is kept sized head = absurd head
  answers_file (Content head rev count) names meta is kept sized told = (
    record {
      others = h.others;
      user = user;
      path = path;
      names = names;
      meta = meta;
      wanted = refl;
      there = sym is;
      kept = kept;
      sized = sized;
      says = told.0;
      rev_is = told.1;
      count_is = told.2;
      grown = h.grown;
      mine = h.mine;
    },
    same,
  )

-- the command of an act with its data, in the state behind what others entered
placed_more : (old : Kept) (others : List Cmd) (seat at : ℕ) (act : Act) (bytes : List ℕ)
    → placed_at (with_more old others) bytes (cmd_of seat at act) ≡ cmd_with seat at (state_after (state_of old) others) act bytes
placed_more old others seat at act bytes = ap (λ s. cmd_with seat at s act bytes) (state_more old others)

entered_reply : (old : Kept) (others : List Cmd) (seat at : ℕ) (act : Act) (bytes : List ℕ)
    → reply_of (with_more old others) (placed_at (with_more old others) bytes (cmd_of seat at act))
    ≡ (step (state_after (state_of old) others) (cmd_with seat at (state_after (state_of old) others) act bytes)).reply
entered_reply old others seat at act bytes =
    ap (reply_of (with_more old others)) (placed_more old others seat at act bytes)
    ∙ reply_more old others (cmd_with seat at (state_after (state_of old) others) act bytes)

entered_next : (old : Kept) (others : List Cmd) (seat at : ℕ) (act : Act) (bytes : List ℕ)
    → next_of (with_more old others) (placed_at (with_more old others) bytes (cmd_of seat at act))
    ≡ with_more old (others ++ entered (state_after (state_of old) others) (cmd_with seat at (state_after (state_of old) others) act bytes))
entered_next old others seat at act bytes =
    ap (next_of (with_more old others)) (placed_more old others seat at act bytes)
    ∙ next_more old others (cmd_with seat at (state_after (state_of old) others) act bytes)

module _ (alone : Bool) (seat at : ℕ) (old new : Kept) (x y : Option (List ℕ)) (act : Act) (bytes : List ℕ) (reply : Reply)
    (commits : Commits alone old new (cmd_of seat at act) bytes reply) (puts : IsTrue alone → PutsData (state_of old) (cmd_of seat at act) bytes x y)
    (below : IsTrue alone → KeepsPieces (state_of old) x y) where
  pub acts_entered : (close : Bool) (text : List ℕ) → text ≡ text_of (answered (answer_to act reply)) close → Acts alone seat at old new x y (enters act bytes) close text
  acts_entered close text told = record {
    others = commits.others;
    says = told ∙ ap (λ r. text_of (answered (answer_to act r)) close) (commits.told ∙ entered_reply old commits.others seat at act bytes);
    none = refl;
    empty = refl;
    grown = commits.grown ∙ entered_next old commits.others seat at act bytes;
    mine = commits.mine;
    puts = λ is. put_both seat at (state_of old) act bytes x y (puts is) (below is);
  }

  -- its command entered, though memory was wanting for its reply
  pub misses_entered : Misses alone seat at old new x y (enters act bytes)
  misses_entered = record {
    others = commits.others;
    any = true;
    grown = commits.grown ∙ entered_next old commits.others seat at act bytes;
    mine = commits.mine;
    puts = λ is. put_both seat at (state_of old) act bytes x y (puts is) (below is);
  }

-- ---- where memory was wanting

pub misses_still : (alone : Bool) (seat at : ℕ) (old : Kept) (x : Option (List ℕ)) (d : Decision) → Misses alone seat at old old x x d
misses_still alone seat at old x d = record {
  others = [];
  any = false;
  grown = with_nothing old;
  mine = λ _. refl;
  puts = λ _. still (state_of old) x x (keeps_same (state_of old) x x refl);
}

pub misses_others : (alone : Bool) (seat at : ℕ) (old new : Kept) (x y : Option (List ℕ)) (d : Decision) → OthersEnter alone old new
    → (IsTrue alone → KeepsPieces (state_of old) x y) → Misses alone seat at old new x y d
misses_others alone seat at old new x y d h below = record {
  others = h.others;
  any = false;
  grown = with_others old new h.others h.grown;
  mine = h.mine;
  puts = λ is. still (state_of old) x y (below is);
}

pub misses_waited : (alone : Bool) (seat at : ℕ) (old new : Kept) (x y : Option (List ℕ)) (d : Decision) → OthersEnter alone old new → y ≡ x
    → Misses alone seat at old new x y d
misses_waited alone seat at old new x y d h same = misses_others alone seat at old new x y d h (λ _. keeps_same (state_of old) x y same)

-- ---- where the disk failed

pub stuck_at : (alone : Bool) (seat at : ℕ) (old new : Kept) (x y : Option (List ℕ)) (waited now : List Cmd) (act : Act) (bytes : List ℕ) → OthersEnter alone old new
    → Leaves waited (cmd_with seat at (state_of old) act bytes ∷ []) now → (IsTrue alone → KeepsPieces (state_of old) x y)
    → IsStuck alone seat at old new x y waited now (enters act bytes)
stuck_at alone seat at old new x y waited now act bytes h left below = record {
  act = act;
  bytes = bytes;
  others = h.others;
  wanted = refl;
  grown = h.grown;
  left = left;
  mine = h.mine;
  below = below;
}

-- an act's data are no more than the bytes that they are taken from
pub data_few : (act : Act) (bytes : List ℕ) (most : ℕ) → length bytes ≤ most → length (data_of act bytes) ≤ most
data_few (MakeFolder user path rename) bytes most few = omega arith
data_few (Upload user commit drafted last) bytes most few = few
