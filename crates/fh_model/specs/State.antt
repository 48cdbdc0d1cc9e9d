-- The machine's state, and what stands in it.
use Rattle.std.specs.Prelude.{ℕ, ◌+◌, ◌^◌, ◌==◌, ◌||◌, nat_le, Bool, false, if◌then◌else◌, List, [], ◌∷◌, ◌++◌, find, length, Option, None, Some}
use Rattle.std.specs.List.{list_any}
use Rattle.std.specs.Option.{option_map}
use Rattle.std.specs.Str.{bytes_eq}
use Rattle.fh_model.specs.declared.changes.Change.{Change}
use Rattle.fh_model.specs.declared.files.FileMeta.{FileMeta}
use Rattle.fh_model.specs.declared.files.Revision.{Revision}
use Rattle.fh_model.specs.declared.sessions.Session.{Session}
use Rattle.fh_model.specs.declared.state.Namespace.{Namespace}
use Rattle.fh_model.specs.declared.state.Next.{Next}
use Rattle.fh_model.specs.declared.state.User.{User}
use Rattle.fh_model.specs.Trees.{Tree, tree_of}

pub record State : Type 0 where
  pub users : List User
  pub namespaces : List Namespace
  -- each version of a file that was ever put, in the order of their revs
  pub revisions : List Revision
  -- data that is of no file yet, in the order of the sessions' numbers
  pub sessions : List Session
  -- the next number of each kind
  pub next : Next
  -- the second of the last command that was accepted, or a later one that it came after
  pub moment : ℕ

-- a new store: user 1 with its home, namespace 1, which is empty
abbrev pub opening : State
opening = record {
  users = record { number = 1; home = 1; token = None } ∷ [];
  namespaces = record { number = 1; shared = false; floor = 0; changes = []; members = [] } ∷ [];
  revisions = [];
  sessions = [];
  next = record { rev = 1; id = 1; session = 1; user = 2; namespace = 2 };
  moment = 0;
}

abbrev pub user_of : State → ℕ → Option User
user_of s number = find (λ user. user.number == number) s.users

abbrev pub is_token : List ℕ → Option (List ℕ) → Bool
is_token text None = false
is_token text (Some token) = bytes_eq token text

-- the user whose token this is
abbrev pub has_token : List ℕ → User → Bool
has_token text user = is_token text user.token

abbrev pub token_user : State → List ℕ → Option ℕ
token_user s text = option_map (λ user. user.number) (find (has_token text) s.users)

-- the number of a user's home
abbrev pub home_of : State → ℕ → Option ℕ
home_of s number = option_map (λ user. user.home) (user_of s number)

-- the version of a file with this rev, with the place at which it was put
abbrev pub revision_of : State → ℕ → Option Revision
revision_of s rev = find (λ kept. kept.file.rev == rev) s.revisions

abbrev pub meta_of : State → ℕ → Option FileMeta
meta_of s rev = option_map (λ kept. kept.file) (revision_of s rev)

abbrev pub tree_or_none : Option Namespace → Tree
tree_or_none None = []
tree_or_none (Some space) = tree_of space

-- the tree of the namespace with this number, empty where there is none
abbrev pub tree_in : State → ℕ → Tree
tree_in s number = tree_or_none (find (λ space. space.number == number) s.namespaces)

-- the position behind a namespace's last change
abbrev pub length_of : Namespace → ℕ
length_of space = space.floor + length space.changes

-- more changes of the namespace with this number
abbrev pub grown : ℕ → List Change → Namespace → Namespace
grown number changes space =
    if space.number == number then record space { changes = space.changes ++ changes } else space

-- a number from which on nothing more is given out
abbrev pub spent_at : ℕ
spent_at = 2 ^ 62

abbrev pub next_is_spent : Next → Bool
next_is_spent next = nat_le spent_at next.rev || (nat_le spent_at next.id || (nat_le spent_at next.session
    || (nat_le spent_at next.user || nat_le spent_at next.namespace)))

abbrev pub space_is_spent : Namespace → Bool
space_is_spent space = nat_le spent_at (length_of space) || nat_le (2 ^ 31) (length space.members)

abbrev pub session_is_spent : Session → Bool
session_is_spent session = nat_le (2 ^ 31) (length session.pieces)

-- a counter, a namespace's length, a list of members or the pieces of a session have come to their end
abbrev pub is_spent : State → Bool
is_spent s = next_is_spent s.next || (list_any space_is_spent s.namespaces || list_any session_is_spent s.sessions)
