-- What a reader has heard, piece by piece.
use Rattle.std.proofs.{Common.{◌≡◌, ℕ, List, [], ◌++◌, Option, sym, ap, ◌∙◌, subst, append-nil, append_assoc}, KnownBytes.{Consumes-nil, Consumes-trans}}
use Rattle.std.specs.Io.KnownBytes.{Consumes}
use Rattle.gx_soup.specs.{declared.packet.SoupFault.SoupFault, Feeding.{Held, HasRead}, Packets.packets_of}
use Rattle.gx_session.specs.Happenings.{Happening}
use Rattle.gx_serve.specs.{declared.reading.Left.Left, Readings.{IfOpen, IsReadBroken, IsLeft, Leaves, Stands, WasHeard}}
use Rattle.gx_reception.specs.{Arrivals.HasEnded, Openings.{IsOpening, OpeningData}}
use Rattle.gx_reception.proofs.Packets_idle.{ended_so}

-- a piece was taken
pub opened : (feeder feeder' : Held) (piece : List ℕ) (result : Left) → ((before : List ℕ) → HasRead feeder before → IsLeft (packets_of (before ++ piece)).fault result)
    → ((before : List ℕ) → HasRead feeder before → IfOpen result (HasRead feeder' (before ++ piece))) → (before : List ℕ) → Stands Left.Open feeder before → Stands result feeder' (before ++ piece)
opened feeder feeder' piece Left.Open left read before stands = (read before stands.0, left before stands.0)
opened feeder feeder' piece (Left.Over over) left read before stands = (tt, tt)
opened feeder feeder' piece (Left.Refused told) left read before stands = (tt, left before stands.0)
opened feeder feeder' piece (Left.Broken found told) left read before stands = let l = left before stands.0 in (
  tt,
  record {
    front = before ++ piece;
    rest = [];
    whole = sym (append-nil (before ++ piece));
    fault = l.0;
    told = l.1;
  },
)
opened feeder feeder' piece (Left.Excluded why told) left read before stands = (tt, left before stands.0)

-- what comes behind a fault is let go
pub still_broken : (found : SoupFault) (told : Happening) (before piece : List ℕ) → IsReadBroken found told before → IsReadBroken found told (before ++ piece)
still_broken found told before piece b = record {
  front = b.front;
  rest = b.rest ++ piece;
  whole = ap (λ bytes. bytes ++ piece) b.whole ∙ append_assoc b.front b.rest piece;
  fault = b.fault;
  told = b.told;
}

-- of what was read so far, behind the bytes that the connection began with
pub record HeardSoFar (before : List ℕ) (input left : Option (List ℕ)) (feeder : Held) (state : Left) : Type 0 where
  pub bytes : List ℕ
  pub consumed : Consumes input left bytes
  pub stands : Stands state feeder (before ++ bytes)

-- what the bytes that a connection began with leave
begun : (before : List ℕ) (o : OpeningData) (state : Left) → IsOpening before o → IsLeft o.fault state → Leaves before state
begun before o Left.Open opening left = opening.fault ∙ left
begun before o (Left.Over over) opening left = tt
begun before o (Left.Refused told) opening left = left
begun before o (Left.Broken found told) opening left = record {
  front = before;
  rest = [];
  whole = sym (append-nil before);
  fault = opening.fault ∙ left.0;
  told = left.1;
}
begun before o (Left.Excluded why told) opening left = left

has_begun : (before : List ℕ) (o : OpeningData) (state : Left) → IsOpening before o → IfOpen state (HasRead o.feeder before)
has_begun before o Left.Open opening = opening.reads
has_begun before o (Left.Over over) opening = tt
has_begun before o (Left.Refused told) opening = tt
has_begun before o (Left.Broken found told) opening = tt
has_begun before o (Left.Excluded why told) opening = tt

pub nothing_heard : (before : List ℕ) (input : Option (List ℕ)) (o : OpeningData) (state : Left) → IsOpening before o → IsLeft o.fault state → HeardSoFar before input input o.feeder state
nothing_heard before input o state opening left = record {
  bytes = [];
  consumed = Consumes-nil input;
  stands = subst (Stands state o.feeder) (sym (append-nil before)) (has_begun before o state opening, begun before o state opening left);
}

pub heard_first : (before : List ℕ) (input : Option (List ℕ)) (o : OpeningData) (feeder : Held) (state : Left) → feeder ≡ o.feeder → IsOpening before o → IsLeft o.fault state → HeardSoFar before input input feeder state
heard_first before input o feeder state is opening left = subst (λ f. HeardSoFar before input input f state) (sym is) (nothing_heard before input o state opening left)

-- a piece more was read
pub heard_more : (before piece : List ℕ) (input mid left : Option (List ℕ)) (feeder feeder' : Held) (state state' : Left) → HeardSoFar before input mid feeder state → Consumes mid left piece
    → ((front : List ℕ) → Stands state feeder front → Stands state' feeder' (front ++ piece)) → HeardSoFar before input left feeder' state'
heard_more before piece input mid left feeder feeder' state state' h read more = record {
  bytes = h.bytes ++ piece;
  consumed = Consumes-trans input mid left h.bytes piece h.consumed read;
  stands = subst (Stands state' feeder') (append_assoc before h.bytes piece) (more (before ++ h.bytes) h.stands);
}

pub heard : (before : List ℕ) (input mid left : Option (List ℕ)) (feeder : Held) (state : Left) (failed failed' : ℕ) → HeardSoFar before input mid feeder state → HasEnded mid left failed failed' → WasHeard before input left failed' state
heard before input mid left feeder state failed failed' h end = record {
  bytes = h.bytes;
  consumed = subst (Consumes input left) (append-nil h.bytes) (Consumes-trans input mid left h.bytes [] h.consumed end.0);
  leaves = h.stands.1;
  ended = ended_so left failed failed' end.1;
}
