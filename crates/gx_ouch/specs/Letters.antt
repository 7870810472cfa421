-- The one-letter codes that are written.
use Rattle.std.specs.Prelude.{ℕ}
use Rattle.gx_ouch.specs.declared.letters.{EventCode.EventCode, Liquidity.Liquidity, CancelReason.CancelReason, RejectReason.RejectReason}

-- the Event Code of System Event: `E`
abbrev pub event_letter : EventCode → ℕ
event_letter EventCode.EndOfDay = 69

-- the Liquidity Flag of Executed: `A`, `R`
abbrev pub liquidity_letter : Liquidity → ℕ
liquidity_letter Liquidity.Added = 65
liquidity_letter Liquidity.Removed = 82

-- the Reason of Canceled: `U`, `I`, `S`
abbrev pub cancel_letter : CancelReason → ℕ
cancel_letter CancelReason.UserRequested = 85
cancel_letter CancelReason.ImmediateOrCancel = 73
cancel_letter CancelReason.Supervisory = 83

-- the Reason of Rejected: `C`, `a`, `L`, `S`, `Z`, `X`, `D`, `N`, `R`, `O`, `H`, `c`, `i`, `d`, `e`, `m`, `n`
abbrev pub reject_letter : RejectReason → ℕ
reject_letter RejectReason.Closed = 67
reject_letter RejectReason.RejectAll = 97
reject_letter RejectReason.FirmNotAuthorized = 76
reject_letter RejectReason.InvalidStock = 83
reject_letter RejectReason.SharesExceedSafety = 90
reject_letter RejectReason.InvalidPrice = 88
reject_letter RejectReason.InvalidDisplay = 68
reject_letter RejectReason.InvalidMinimumQuantity = 78
reject_letter RejectReason.NotAllowedInCross = 82
reject_letter RejectReason.Other = 79
reject_letter RejectReason.Halted = 72
reject_letter RejectReason.RestrictedStock = 99
reject_letter RejectReason.ShortSale = 105
reject_letter RejectReason.IntermarketSweep = 100
reject_letter RejectReason.OddLot = 101
reject_letter RejectReason.SharesLimit = 109
reject_letter RejectReason.DollarLimit = 110

-- the Order State of Accepted and Replaced, always live: `L`
abbrev pub order_state : ℕ
order_state = 76

-- the BBO Weight Indicator of Accepted and Replaced, never told: a space
abbrev pub weight_indicator : ℕ
weight_indicator = 32
