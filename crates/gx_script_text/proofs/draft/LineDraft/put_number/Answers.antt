use Rattle.std.proofs.{Common.{◌≡◌, ℕ, ◌-◌, ◌<◌, ◌≤◌, ◌^◌, ◌++◌, List, length, drop, decimal, sym, ap, ◌∙◌, arith, length-append, length-drop}, lemmas.Fmt.length-decimal-le}
use Rattle.gx_script_text.proofs.draft.LineDraft.put_number.Goals as goal

-- 64 bits have 20 digits at most
short : (number : ℕ) → number < 2 ^ 64 → length (decimal number) ≤ 20
short number fits = length-decimal-le 20 number (omega arith) (omega (arith, fits)) fits

-- what is written of a room, by where it begins
written : (room now : List ℕ) (start : ℕ) → drop start room ≡ now → length now ≡ length room - start
written room now start view = ap length (sym view) ∙ length-drop start room

pub write_digits-self-inside-requires : goal.write_digits-self-inside-requires
write_digits-self-inside-requires c =
    let few = short c.args.number (omega (arith, c.ranges.number.fits)) in
    let has = written c.self.inside.room c.args.self.now c.self.inside.start c.self.view_is in
    (omega (arith, few, has, c.requires, c.self.told, c.self.invariant), omega (arith, c.self.invariant, c.self.told))

pub returns-clause-len : goal.returns-clause-len
returns-clause-len c =
    let few = short c.args.number (omega (arith, c.ranges.number.fits)) in
    let has : length (drop c.write_digits-self-inside.result c.write_digits-self-inside.new.buf) ≡ length (decimal c.args.number ++ drop c.self.inside.start c.self.inside.room) = ap length c.write_digits-self-inside.ensures.written in
    omega (arith, few, has, length-append (decimal c.args.number) (drop c.self.inside.start c.self.inside.room), ap length c.self.view_is)
