-- What becomes of the book by a turn of the live orders.
use Rattle.std.proofs.{Common.{◌≡◌, ℕ, Bool, true, false, not, List, [], ◌∷◌, ◌++◌, refl, ◌∙◌, ap, sym, map, cond}, Math.Path.subst, lemmas.{Bool.{eq-eqb, eqb-true, ne_eqb, both_ways}, List.map-append}}
use Rattle.std.specs.{Prelude.{Option, Some, None, option_map, ◌==◌, ◌&&◌, nat_lt}, Option.option_map_or, List.{AllByRecursion, cons_option, filter, filter_map}}
use Rattle.gx_units.specs.{Names.same_account, declared.names.Symbol.Symbol}
use Rattle.gx_desk.specs.declared.Action.{Action}
use Rattle.gx_policy.specs.{declared.policy.PolicyData.PolicyData, Lists.{inserted_behind, where_true}}
use Rattle.gx_history.specs.{declared.{live_order.LiveOrder.LiveOrder, «record».RecordData.RecordData}, Book.is_buy, Live.{ahead, is_there, live, live_numbered, side}, Turns.{EndsAll, Rests, becomes, side_after, while_open}, Verdicts.IsLegal}
use Rattle.gx_laws.proofs.{LiveOrders_numbered.same_order, LiveOrders_known.{RestsThere, all_resting}, Runs_orderly.legal_is_orderly}
use Rattle.gx_book.specs.{Resting.{RestingData, resting_of}, Books.with_one_side, Changes.{left_with, put_to_rest, taken_out}, Queue.{is_same, no_orders, with_order, with_open_shares, without_account, without_order}}
use Rattle.gx_book.specs.Queue as queue
use Rattle.gx_matching.specs.{BookInForce.{book_in_force, rested_in}, Changes.ended_by}
use Rattle.gx_matching.proofs.Book_sides.{each_side, no_side, one_side}
use Rattle.gx_units.proofs.{Test_known.and_false, Names_equal.same_account_flip, Lists_hold.all_weaker}
use Rattle.gx_book.proofs.AccountOrders_out.{none_out}

-- where each goes, or the book holds of it what it held, the others stay in their order
those_left : (f : LiveOrder → Option LiveOrder) (p : RestingData → Bool) (os : List LiveOrder) → AllByRecursion (λ (o : LiveOrder). option_map resting_of (f o) ≡ where_true (p (resting_of o)) (resting_of o)) os
    → map resting_of (filter_map f os) ≡ filter p (map resting_of os)
those_left f p [] h = refl
those_left f p (o ∷ os) h = mapped (f o) ∙ ap (λ (found : Option RestingData). cons_option found (map resting_of (filter_map f os))) h.0 ∙ ap (cons_option (where_true (p (resting_of o)) (resting_of o))) (those_left f p os h.1) ∙ at (p (resting_of o))
  where
    mapped : (found : Option LiveOrder) → map resting_of (cons_option found (filter_map f os)) ≡ cons_option (option_map resting_of found) (map resting_of (filter_map f os))
    mapped None = refl
    mapped (Some x) = refl

    at : (b : Bool) → cons_option (where_true b (resting_of o)) (filter p (map resting_of os)) ≡ cond b (resting_of o ∷ filter p (map resting_of os)) (filter p (map resting_of os))
    at true = refl
    at false = refl

none_left : (rs : List RestingData) → filter (λ (r : RestingData). false) rs ≡ []
none_left [] = refl
none_left (r ∷ rs) = none_left rs

-- each side is turned so
abbrev pub SidesTurn : PolicyData → List RecordData → List RecordData → (LiveOrder → Option LiveOrder) → Type 0
SidesTurn policy before after f = (stock : Symbol) (buy : Bool) → side policy after stock buy ≡ filter_map f (side policy before stock buy)

sides_left : {policy : PolicyData} {before : List RecordData} (after : List RecordData) (f : LiveOrder → Option LiveOrder) (p : RestingData → Bool) (stock : Symbol) (buy : Bool) → IsLegal policy before → SidesTurn policy before after f
    → ((o : LiveOrder) → RestsThere policy before stock buy o → option_map resting_of (f o) ≡ where_true (p (resting_of o)) (resting_of o)) → rested_in policy after stock buy ≡ filter p (rested_in policy before stock buy)
sides_left {policy} {before} after f p stock buy legal turn each =
    ap (map resting_of) (turn stock buy)
    ∙ those_left f p (side policy before stock buy)
    (all_weaker (RestsThere policy before stock buy) (λ (o : LiveOrder). option_map resting_of (f o) ≡ where_true (p (resting_of o)) (resting_of o)) each (side policy before stock buy) (all_resting stock buy (legal_is_orderly legal)))

-- where the book holds of each that rests what it held, nothing changes
pub book_stays : {policy : PolicyData} {before : List RecordData} (after : List RecordData) (f : LiveOrder → Option LiveOrder) → IsLegal policy before → SidesTurn policy before after f
    → ((o : LiveOrder) → live_numbered (live policy before) o.number ≡ Some o → o.waits ≡ false → option_map resting_of (f o) ≡ Some (resting_of o)) → book_in_force policy after ≡ book_in_force policy before
book_stays {policy} {before} after f legal turn each =
    no_side policy before after (λ stock buy. sides_left after f (λ r. true) stock buy legal turn (λ o there. each o there.known.is_found there.rests) ∙ none_out (rested_in policy before stock buy))

-- what becomes of each order that rests is what becomes of what the book holds of it
those_turned : (f : LiveOrder → Option LiveOrder) (g : RestingData → Option RestingData) (os : List LiveOrder) → AllByRecursion (λ (o : LiveOrder). option_map resting_of (f o) ≡ g (resting_of o)) os
    → map resting_of (filter_map f os) ≡ filter_map g (map resting_of os)
those_turned f g [] h = refl
those_turned f g (o ∷ os) h = mapped (f o) ∙ ap (λ (found : Option RestingData). cons_option found (map resting_of (filter_map f os))) h.0 ∙ ap (cons_option (g (resting_of o))) (those_turned f g os h.1)
  where
    mapped : (found : Option LiveOrder) → map resting_of (cons_option found (filter_map f os)) ≡ cons_option (option_map resting_of found) (map resting_of (filter_map f os))
    mapped None = refl
    mapped (Some x) = refl

-- one order turned so, and all others as they were
abbrev one_so : RestingData → (RestingData → Option RestingData) → RestingData → Option RestingData
one_so order k r = cond (is_same order r) (k r) (Some r)

one_turned : {policy : PolicyData} {before : List RecordData} (after : List RecordData) (f : LiveOrder → Option LiveOrder) (o : LiveOrder) (k : RestingData → Option RestingData) → IsLegal policy before → SidesTurn policy before after f
    → live_numbered (live policy before) o.number ≡ Some o → option_map resting_of (f o) ≡ k (resting_of o)
    → ((x : LiveOrder) → live_numbered (live policy before) x.number ≡ Some x → x.waits ≡ false → (x.number == o.number) ≡ false → f x ≡ Some x)
    → book_in_force policy after ≡ with_one_side o.terms.stock (is_buy o.terms.side) (filter_map (one_so (resting_of o) k)) (book_in_force policy before)
one_turned {policy} {before} after f o k legal turn found itself others =
    one_side policy before after o.terms.stock o.terms.side (λ buy. filter_map (one_so (resting_of o) k)) (λ stock buy.
    ap (map resting_of) (turn stock buy)
    ∙ those_turned f (there_so stock buy) (side policy before stock buy)
    (all_weaker (RestsThere policy before stock buy) (λ (x : LiveOrder). option_map resting_of (f x) ≡ there_so stock buy (resting_of x)) (each stock buy) (side policy before stock buy)
    (all_resting stock buy (legal_is_orderly legal)))
    ∙ home (rested_in policy before stock buy) (is_there stock buy o))
  where
    there_so : Symbol → Bool → RestingData → Option RestingData
    there_so stock buy r = cond (is_there stock buy o && is_same (resting_of o) r) (k r) (Some r)

    it : (x : LiveOrder) → live_numbered (live policy before) x.number ≡ Some x → (x.number == o.number) ≡ true → x ≡ o
    it x also same = same_order policy before o x found also (eqb-true x.number o.number same)

    -- an order of one side is told from others by its number
    told : (stock : Symbol) (buy : Bool) (x : LiveOrder) → RestsThere policy before stock buy x → (b : Bool) → (x.number == o.number) ≡ b → (is_there stock buy o && is_same (resting_of o) (resting_of x)) ≡ b
    told stock buy x there true same =
        subst (λ (y : LiveOrder). (is_there stock buy y && is_same (resting_of y) (resting_of x)) ≡ true) (it x there.known.is_found same)
        (ap (λ (b : Bool). b && is_same (resting_of x) (resting_of x)) there.there
        ∙ ap (λ (b : Bool). b && (x.terms.price == x.terms.price)) (eq-eqb x.number x.number refl)
        ∙ eq-eqb x.terms.price x.terms.price refl)
    told stock buy x there false other =
        ap (λ (b : Bool). is_there stock buy o && (b && (o.terms.price == x.terms.price))) (ne_eqb o.number x.number (λ same. both_ways _ other (eq-eqb x.number o.number (sym same))))
        ∙ and_false (is_there stock buy o)

    becomes_so : (x : LiveOrder) → live_numbered (live policy before) x.number ≡ Some x → x.waits ≡ false → (b : Bool) → (x.number == o.number) ≡ b → option_map resting_of (f x) ≡ cond b (k (resting_of x)) (Some (resting_of x))
    becomes_so x also rests true same = subst (λ (y : LiveOrder). option_map resting_of (f y) ≡ k (resting_of y)) (sym (it x also same)) itself
    becomes_so x also rests false other = ap (option_map resting_of) (others x also rests other)

    each : (stock : Symbol) (buy : Bool) (x : LiveOrder) → RestsThere policy before stock buy x → option_map resting_of (f x) ≡ there_so stock buy (resting_of x)
    each stock buy x there =
        becomes_so x there.known.is_found there.rests (x.number == o.number) refl
        ∙ ap (λ (b : Bool). cond b (k (resting_of x)) (Some (resting_of x))) (sym (told stock buy x there (x.number == o.number) refl))

    as_they_were : (rs : List RestingData) → filter_map (λ (r : RestingData). Some r) rs ≡ rs
    as_they_were [] = refl
    as_they_were (r ∷ rs) = ap (λ (more : List RestingData). r ∷ more) (as_they_were rs)

    home : (rs : List RestingData) (b : Bool) → filter_map (λ r. cond (b && is_same (resting_of o) r) (k r) (Some r)) rs ≡ cond b (filter_map (one_so (resting_of o) k) rs) rs
    home rs true = refl
    home rs false = as_they_were rs

-- turned to nothing, it goes
goes_so : (order : RestingData) (rs : List RestingData) → filter_map (one_so order (λ r. None)) rs ≡ without_order order rs
goes_so order [] = refl
goes_so order (r ∷ rs) = at (is_same order r) (goes_so order rs)
  where
    at : (b : Bool) → filter_map (one_so order (λ x. None)) rs ≡ without_order order rs
        → cons_option (cond b None (Some r)) (filter_map (one_so order (λ x. None)) rs) ≡ cond (not b) (r ∷ without_order order rs) (without_order order rs)
    at true more = more
    at false more = ap (λ (xs : List RestingData). r ∷ xs) more

-- with other shares, it stays
stays_so : (order : RestingData) (shares : ℕ) (rs : List RestingData) → filter_map (one_so order (λ r. Some (record r { shares = shares }))) rs ≡ with_open_shares order shares rs
stays_so order shares [] = refl
stays_so order shares (r ∷ rs) = at (is_same order r) (stays_so order shares rs)
  where
    at : (b : Bool) → filter_map (one_so order (λ x. Some (record x { shares = shares }))) rs ≡ with_open_shares order shares rs
        → cons_option (cond b (Some (record r { shares = shares })) (Some r)) (filter_map (one_so order (λ x. Some (record x { shares = shares }))) rs) ≡ cond b (record r { shares = shares }) r ∷ with_open_shares order shares rs
    at true more = ap (λ (xs : List RestingData). record r { shares = shares } ∷ xs) more
    at false more = ap (λ (xs : List RestingData). r ∷ xs) more

-- with so many shares it stays where it stands, or goes where none are left
left_so : (order : RestingData) (shares : ℕ) (b : Bool) (rs : List RestingData) → nat_lt 0 shares ≡ b
    → filter_map (one_so order (λ r. where_true b (record r { shares = shares }))) rs ≡ queue.left_with order shares rs
left_so order shares true rs is = stays_so order shares rs ∙ ap (λ (b : Bool). cond b (with_open_shares order shares rs) (without_order order rs)) (sym is)
left_so order shares false rs is = goes_so order rs ∙ ap (λ (b : Bool). cond b (with_open_shares order shares rs) (without_order order rs)) (sym is)

-- one order goes, and all others stay
pub one_goes : {policy : PolicyData} {before : List RecordData} (after : List RecordData) (f : LiveOrder → Option LiveOrder) (o : LiveOrder) → IsLegal policy before → SidesTurn policy before after f
    → live_numbered (live policy before) o.number ≡ Some o → f o ≡ None
    → ((x : LiveOrder) → live_numbered (live policy before) x.number ≡ Some x → x.waits ≡ false → (x.number == o.number) ≡ false → f x ≡ Some x)
    → book_in_force policy after ≡ taken_out o (book_in_force policy before)
one_goes {policy} {before} after f o legal turn found ends others =
    one_turned after f o (λ r. None) legal turn found (ap (option_map resting_of) ends) others
    ∙ (λ i. with_one_side o.terms.stock (is_buy o.terms.side) (λ rs. goes_so (resting_of o) rs i) (book_in_force policy before))

-- so many shares of an order are left that is changed in size or fills alone
pub order_left : {policy : PolicyData} {before : List RecordData} (after : List RecordData) (f : LiveOrder → Option LiveOrder) (o x : LiveOrder) (shares : ℕ) → IsLegal policy before → SidesTurn policy before after f
    → live_numbered (live policy before) o.number ≡ Some o → f o ≡ while_open x → resting_of x ≡ record (resting_of o) { shares = shares } → nat_lt x.done x.total ≡ nat_lt 0 shares
    → ((y : LiveOrder) → live_numbered (live policy before) y.number ≡ Some y → y.waits ≡ false → (y.number == o.number) ≡ false → f y ≡ Some y)
    → book_in_force policy after ≡ left_with o shares (book_in_force policy before)
order_left {policy} {before} after f o x shares legal turn found becomes_so is some others =
    one_turned after f o (λ r. where_true (nat_lt 0 shares) (record r { shares = shares })) legal turn found
    (ap (option_map resting_of) becomes_so ∙ at (nat_lt x.done x.total) ∙ ap (λ (r : RestingData). where_true (nat_lt x.done x.total) r) is ∙ ap (λ (b : Bool). where_true b (record (resting_of o) { shares = shares })) some) others
    ∙ (λ i. with_one_side o.terms.stock (is_buy o.terms.side) (λ rs. left_so (resting_of o) shares (nat_lt 0 shares) rs refl i) (book_in_force policy before))
  where
    at : (b : Bool) → option_map resting_of (cond b (Some x) None) ≡ where_true b (resting_of x)
    at true = refl
    at false = refl

-- a command
pub book_ends : {policy : PolicyData} {before : List RecordData} (after : List RecordData) (action : Action) → IsLegal policy before → SidesTurn policy before after (becomes (EndsAll action)) → book_in_force policy after ≡ ended_by action (book_in_force policy before)
book_ends {policy} {before} after (Action.Kill account) legal turn =
    each_side policy before after (without_account account) (λ stock buy. sides_left after (becomes (EndsAll (Action.Kill account))) (λ r. not (queue.is_resting_of account r)) stock buy legal turn
    (λ o there. ap (λ (b : Bool). option_map resting_of (cond b None (Some o))) (same_account_flip account o.account) ∙ at o (same_account o.account account)))
  where
    at : (o : LiveOrder) (b : Bool) → option_map resting_of (cond b None (Some o)) ≡ where_true (not b) (resting_of o)
    at o true = refl
    at o false = refl
book_ends {policy} {before} after Action.CloseDay legal turn =
    each_side policy before after no_orders (λ stock buy. sides_left after (becomes (EndsAll Action.CloseDay)) (λ r. false) stock buy legal turn (λ o there. refl) ∙ none_left (rested_in policy before stock buy))
book_ends after (Action.Lift account) legal turn = book_stays after (becomes (EndsAll (Action.Lift account))) legal turn (λ o found rests. refl)
book_ends after (Action.SetLimit rule limit) legal turn = book_stays after (becomes (EndsAll (Action.SetLimit rule limit))) legal turn (λ o found rests. refl)
book_ends after (Action.Restrict rule stock) legal turn = book_stays after (becomes (EndsAll (Action.Restrict rule stock))) legal turn (λ o found rests. refl)
book_ends after (Action.Unrestrict rule stock) legal turn = book_stays after (becomes (EndsAll (Action.Unrestrict rule stock))) legal turn (λ o found rests. refl)
book_ends after (Action.Grant reader account) legal turn = book_stays after (becomes (EndsAll (Action.Grant reader account))) legal turn (λ o found rests. refl)
book_ends after (Action.Revoke reader account) legal turn = book_stays after (becomes (EndsAll (Action.Revoke reader account))) legal turn (λ o found rests. refl)

filter_of_map : {X Y : Type 0} (p : Y → Bool) (f : X → Y) (xs : List X) → filter p (map f xs) ≡ map f (filter (λ x. p (f x)) xs)
filter_of_map p f [] = refl
filter_of_map p f (x ∷ xs) =
    ap (λ ys. cond (p (f x)) (f x ∷ ys) ys) (filter_of_map p f xs)
    ∙ elim (p (f x)) as (λ b. cond b (f x ∷ map f (filter (λ y. p (f y)) xs)) (map f (filter (λ y. p (f y)) xs)) ≡ map f (cond b (x ∷ filter (λ y. p (f y)) xs) (filter (λ y. p (f y)) xs)))
    [ true ↦ refl | false ↦ refl ]

-- an order that comes to rest is placed on its side
pub book_rests : (policy : PolicyData) (before after : List RecordData) (number : ℕ) (o : LiveOrder) → live_numbered (live policy before) number ≡ Some o
    → ((stock : Symbol) (buy : Bool) → side policy after stock buy ≡ side_after (Rests number) (live policy before) stock buy (side policy before stock buy)) → book_in_force policy after ≡ put_to_rest o (book_in_force policy before)
book_rests policy before after number o found turn =
    one_side policy before after o.terms.stock o.terms.side (λ buy. with_order buy (resting_of o)) (λ stock buy.
    ap (map resting_of)
    (turn stock buy ∙ ap (λ (x : Option LiveOrder). option_map_or (λ (y : LiveOrder). cond (is_there stock buy y) (inserted_behind (ahead buy) (side policy before stock buy) (record y { waits = false })) (side policy before stock buy)) x (side policy before stock buy)) found)
    ∙ at buy (side policy before stock buy) (is_there stock buy o))
  where
    at : (buy : Bool) (os : List LiveOrder) (b : Bool) → map resting_of (cond b (inserted_behind (ahead buy) os (record o { waits = false })) os) ≡ cond b (with_order buy (resting_of o) (map resting_of os)) (map resting_of os)
    at buy os true = placed_mapped (ahead buy) (queue.is_better buy) (λ x. refl) os (record o { waits = false })
      where
        placed_mapped : (p : LiveOrder → LiveOrder → Bool) (q : RestingData → RestingData → Bool) → ((x : LiveOrder) → p x ≡ (λ (y : LiveOrder). q (resting_of x) (resting_of y))) → (os : List LiveOrder) (x : LiveOrder)
            → map resting_of (inserted_behind p os x) ≡ inserted_behind q (map resting_of os) (resting_of x)
        placed_mapped p q same os x =
            ap (λ (test : LiveOrder → Bool). map resting_of (filter (λ y. not (test y)) os ++ x ∷ filter test os)) (same x)
            ∙ map-append resting_of (filter (λ y. not (q (resting_of x) (resting_of y))) os) (x ∷ filter (λ y. q (resting_of x) (resting_of y)) os)
            ∙ ap (λ rs. rs ++ resting_of x ∷ map resting_of (filter (λ y. q (resting_of x) (resting_of y)) os)) (sym (filter_of_map (λ r. not (q (resting_of x) r)) resting_of os))
            ∙ ap (λ rs. filter (λ r. not (q (resting_of x) r)) (map resting_of os) ++ resting_of x ∷ rs) (sym (filter_of_map (q (resting_of x)) resting_of os))
    at buy os false = refl
