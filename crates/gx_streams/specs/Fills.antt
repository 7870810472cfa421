-- What a fill owes: a report to the user of each side, and a drop copy of a side to each reader of its account.
use Rattle.std.specs.{Prelude.{ℕ, List, [], ◌∷◌, ◌++◌, if◌then◌else◌}, List.flat_map}
use Rattle.gx_ouch.specs.declared.{outbound.{Executed.Executed, Outbound.Outbound}, letters.Liquidity.Liquidity}
use Rattle.gx_history.specs.{Masks.has_account, declared.report.{Message.Message, Report.Report}}
use Rattle.gx_units.specs.{Names.same_user, declared.names.UserName.UserName}
use Rattle.gx_streams.specs.declared.fill.{ReportedFill.ReportedFill, FillSide.FillSide, FillRole.FillRole}

-- a party's side of the fill
abbrev pub fill_side : ReportedFill → FillRole → FillSide
fill_side f FillRole.Taker = f.taker
fill_side f FillRole.Maker = f.maker

-- the taker took from the book, and the maker had put there
abbrev pub liquidity_of : FillRole → Liquidity
liquidity_of FillRole.Taker = Liquidity.Removed
liquidity_of FillRole.Maker = Liquidity.Added

-- Executed, for a party's side
abbrev pub executed_of_fill : ReportedFill → FillRole → Executed
executed_of_fill f party = record { token = (fill_side f party).token; shares = f.shares; price = f.price; liquidity = liquidity_of party; match_number = f.match_number }

-- the report to the user of a party's side
abbrev pub executed_report : ReportedFill → FillRole → Report
executed_report f party = record { timestamp = f.moment; message = Message.Order (Outbound.Executed (executed_of_fill f party)) }

-- the drop copy of a party's side
abbrev pub copy_report : ReportedFill → FillRole → Report
copy_report f party = record { timestamp = f.moment; message = Message.DropCopy (record { executed = executed_of_fill f party; account = (fill_side f party).account; side = (fill_side f party).side }) }

-- the report of a party's side, if it is the user's
abbrev pub executed_to : ReportedFill → UserName → FillRole → List Report
executed_to f user party = if same_user (fill_side f party).user user then executed_report f party ∷ [] else []

-- the reports of his sides, the taker's first
abbrev pub executed_of : ReportedFill → UserName → List Report
executed_of f user = executed_to f user FillRole.Taker ++ executed_to f user FillRole.Maker

-- the drop copy of a party's side, if the mask has its account
abbrev pub fill_copy : ℕ → ReportedFill → FillRole → List Report
fill_copy mask f party = if has_account mask (fill_side f party).account_place then copy_report f party ∷ [] else []

-- the drop copies of a fill, the taker's side first
abbrev pub fill_copies : ℕ → ReportedFill → List Report
fill_copies mask f = fill_copy mask f FillRole.Taker ++ fill_copy mask f FillRole.Maker

-- the drop copies of fills, in their order
abbrev pub copies_of_all : ℕ → List ReportedFill → List Report
copies_of_all mask fills = flat_map (fill_copies mask) fills
