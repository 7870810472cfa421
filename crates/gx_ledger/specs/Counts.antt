-- Which tallies count an account's orders.
use Rattle.std.specs.Prelude.{◌≡◌, ℕ, suc, Bool, ◌&&◌, List, [], ◌∷◌, map, fold, Option, is_some, unwrap_or, if◌then◌else◌}
use Rattle.gx_units.specs.declared.names.AccountName.{AccountName}
use Rattle.gx_policy.specs.People.{covers}
use Rattle.gx_ledger.specs.{Accounts.account_place, Changes.Change, declared.{tally.Tally.Tally, tally_places.CountedAt.CountedAt}, Running.changed_group, Tallies.{changed_at, changed_in, place_in}}

-- the rule counts the orders of the account
abbrev pub counts : Tally → AccountName → Bool
counts t account = is_some t.count && covers t.scope account

-- the place of the group of an account in scope, which has this place in the policy
abbrev pub group_place : Tally → Option ℕ → ℕ
group_place t own = unwrap_or (place_in t.count own) 0

-- where the orders of an account with this place in the policy are counted, from this place of the tallies on
abbrev pub counting_from : AccountName → Option ℕ → ℕ → List Tally → List CountedAt
counting_from account own place [] = []
counting_from account own place (t ∷ tallies) =
    if counts t account then record { tally = place; group = group_place t own } ∷ counting_from account own (suc place) tallies else counting_from account own (suc place) tallies

-- where the orders of the account are counted, which is one of these
abbrev pub places_counting : List AccountName → List Tally → AccountName → List CountedAt
places_counting accounts tallies account = counting_from account (account_place accounts account) 0 tallies

-- for each account there are the places where its orders are counted
abbrev pub AreCounted : List AccountName → List Tally → List (List CountedAt) → Type 0
AreCounted accounts tallies places = places ≡ map (places_counting accounts tallies) accounts

-- what the rule counts after the change of an order of an account in scope
abbrev pub tally_inside : Change → Option ℕ → Tally → Tally
tally_inside change place t = record t { groups = changed_in (place_in t.count place) (changed_group change) t.groups }

-- the same where the account's group stands at this place
abbrev pub tally_with : Change → ℕ → Tally → Tally
tally_with change group t = record t { groups = changed_at group (changed_group change) t.groups }

-- what is counted, after the tallies at these places were told of the change
abbrev pub noted_in : Change → List Tally → List CountedAt → List Tally
noted_in change tallies places = fold (λ (ts : List Tally) (at : CountedAt). changed_at at.tally (tally_with change at.group) ts) tallies places
