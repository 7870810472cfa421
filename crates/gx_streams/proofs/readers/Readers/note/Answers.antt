use Rattle.std.proofs.Common.{◌<◌, ◌+◌, ◌^◌, List, length, ◌∙◌, sym, ap, subst}
use Rattle.std.specs.Map.{values_of}
use Rattle.gx_streams.specs.Spans.{AreWithin, ReaderSpans, with_copies_counted}
use Rattle.gx_streams.proofs.{Readers_named.{next_is, one_more, stays_named_at}, Spans_next.few_at, Accounts_read.{none_counted, within_at}}
use Rattle.gx_streams.proofs.readers.Readers.note.Goals as goal

pub note-requires : goal.note-requires
note-requires c =
    let before = c.loop-place.invariant in
    let rs : List ReaderSpans = values_of c.self.inside.by_name.entries in
    let within : c.loop-place.place < length rs = subst (λ n. c.loop-place.place < n) before.end c.loop-place-test.true in
    subst (λ (r : ReaderSpans). r.count + 2 < 2 ^ 64)
    (sym (next_is (with_copies_counted c.args.fill.now) c.loop-place.self-inside.by_name.entries rs c.loop-place.place c.index_mut.result.now before.are c.index_mut.ensures.value within))
    (few_at (2 ^ 64) rs c.loop-place.place c.index_mut.result.now before.few within)

pub loop-place-preserved : goal.loop-place-preserved
loop-place-preserved c =
    let before = c.loop-place.invariant in
    let rs : List ReaderSpans = values_of c.self.inside.by_name.entries in
    let within : c.loop-place.place < length rs = subst (λ n. c.loop-place.place < n) before.end c.loop-place-test.true in
    record {
      are = one_more (with_copies_counted c.args.fill.now) c.loop-place.self-inside.by_name.entries rs c.loop-place.place c.index_mut.result.now c.note.new.self before.are c.index_mut.ensures.value within c.note.ensures;
      held = record {
        named = stays_named_at c.loop-place.self-inside.by_name.entries c.loop-place.place c.index_mut.result.now c.note.new.self before.held.named c.index_mut.ensures.value (ap (λ (r : ReaderSpans). r.user) c.note.ensures);
        within = within_at c.loop-place.self-inside.read c.loop-place.self-inside.by_name.entries c.loop-place.place c.index_mut.result.now c.note.new.self before.held.within c.index_mut.ensures.value (ap (λ (r : ReaderSpans). r.current) c.note.ensures);
      };
      end = before.end;
      few = before.few;
    }

-- no reader has an account of the fill
pub returns-then-count-eq0 : goal.returns-then-count-eq0
returns-then-count-eq0 c =
    sym (none_counted c.self.inside.read c.args.fill.now c.args.self.now
    (subst (AreWithin c.self.inside.read) c.self.view_is c.self.invariant.within)
    (sym c.count.ensures.count ∙ c.if-count-eq0.true))
