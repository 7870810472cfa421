-- What gross rules keep in every legal history.
use Rattle.std.specs.Prelude.{◌≡◌, Bool, List}
use Rattle.gx_units.specs.declared.names.AccountName.{AccountName}
use Rattle.gx_policy.specs.declared.policy.PolicyData.{PolicyData}
use Rattle.gx_history.specs.{declared.{facts.StockSide.StockSide, «record».RecordData.RecordData}, Figures.{of_accounts, on_side}, Verdicts.IsLegal}
use Rattle.gx_laws.specs.Exposure.{SharesStayWithin, ValuesStayWithin, NetStaysWithin, NoneIsGranted, HasNothing, side_shares}

-- rules on gross shares
abbrev pub GrossSharesAreKept : Type 0
GrossSharesAreKept = (policy : PolicyData) (history : List RecordData) → IsLegal policy history → SharesStayWithin policy history

-- rules on gross value
abbrev pub GrossValuesAreKept : Type 0
GrossValuesAreKept = (policy : PolicyData) (history : List RecordData) → IsLegal policy history → ValuesStayWithin policy history

-- rules on net shares
abbrev pub NetSharesAreKept : Type 0
NetSharesAreKept = (policy : PolicyData) (history : List RecordData) → IsLegal policy history → NetStaysWithin policy history

-- accounts that were granted no order on a side of a stock have nothing open and nothing executed there
abbrev pub NoneAskedNoneOnSide : Type 0
NoneAskedNoneOnSide = (policy : PolicyData) (history : List RecordData) (among : AccountName → Bool) (side : StockSide)
    → IsLegal policy history → NoneIsGranted policy history (on_side among side) → side_shares policy history among side ≡ 0

-- accounts that were granted no order have nothing open and nothing executed
abbrev pub NoneAskedNoneHeld : Type 0
NoneAskedNoneHeld = (policy : PolicyData) (history : List RecordData) (among : AccountName → Bool)
    → IsLegal policy history → NoneIsGranted policy history (of_accounts among) → HasNothing policy history among
