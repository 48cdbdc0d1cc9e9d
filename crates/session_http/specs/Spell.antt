-- What an input spells, and where a connection ends that is sent it and in which nothing fails.
use Rattle.std.specs.Prelude.{ℕ, ◌≡◌, ◌<◌, if◌then◌else◌, List, [], ◌∷◌, length, Option, Some}
use Rattle.fh_model.specs.declared.limits.TheConstants.{REQUESTS_MAX}
use Rattle.http_in.specs.Requests.{Request, Requests, Final, at_end, is_cut, is_bad, is_over}
use Rattle.session_rules.specs.Asked.{asks_last}
use Rattle.session_http.specs.declared.conn.ConnEnd.{ConnEnd}
use Rattle.session_http.specs.declared.conn.ConnEnd.TheVariants.{Ended, Cut, Bad}

abbrev pub end_of : Final → ConnEnd
end_of at_end = Ended
end_of is_cut = Cut
end_of is_bad = Bad
end_of is_over = Bad

-- behind the first request that asks for it, or by how the bytes end
abbrev pub ending_of : List Request → Final → ConnEnd
ending_of [] e = end_of e
ending_of (r ∷ rs) e = if asks_last r.head then Ended else ending_of rs e

-- the requests up to that one
abbrev pub heeded : List Request → List Request
heeded [] = []
heeded (r ∷ rs) = r ∷ (if asks_last r.head then [] else heeded rs)

-- what is left spells requests, of which fewer are heeded than a connection may have, and so has this ending
pub record Spells (left : Option (List ℕ)) (ending : ConnEnd) : Type 0 where
  pub bytes : List ℕ
  pub sent : List Request
  pub rest : List ℕ
  pub final : Final
  pub is : left ≡ Some bytes
  pub splits : Requests bytes sent rest final
  pub few : length (heeded sent) < REQUESTS_MAX
  pub ends : ending ≡ ending_of sent final
