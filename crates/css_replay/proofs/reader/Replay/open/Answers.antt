use Rattle.std.proofs.Common.{◌≡◌, ◌∙◌, false, eqb, length, refl, rules}
use Rattle.std.proofs.lemmas.Bool.{eq-eqb, ne_eqb}
use Rattle.css_replay.proofs.Texts.{well-after}
use Rattle.css_replay.proofs.reader.Replay.open.Goals as goal

pub returns-in_err-header : goal.returns-in_err-header
returns-in_err-header c = λ extent is number.
    let fault = c.in_err-header.ensures.reads extent is number in search rules

pub new-requires : goal.new-requires
new-requires c =
    let start = c.requires.well in
    let next = c.in_ok-header.ensures.reads start.1 start.2 start.0 in
    let whole : length c.in_ok-header.header.companions ≡ c.read_on.new.self.companions = cc in
    let well = rw (next.1.0, eq-eqb _ _ whole) at (well-after start.0 start.1 c.args.text.now start.3) in
    (well.declared.tv, well.declared.companions)

pub returns-in_ok-new : goal.returns-in_ok-new
returns-in_ok-new c = λ extent is number.
    let next = c.in_ok-header.ensures.reads extent is number in
    let whole : length c.in_ok-header.header.companions ≡ c.read_on.new.self.companions = cc in
    let made = c.in_ok-new.ensures.header in
    let stands = c.in_ok-new.ensures.stands in
    (next.0, rw (next.1.0, eq-eqb _ _ whole) (search rules))

pub returns-else-len-self : goal.returns-else-len-self
returns-else-len-self c = λ extent is number.
    let next = c.in_ok-header.ensures.reads extent is number in
    let more : eqb (length c.in_ok-header.header.companions) c.read_on.new.self.companions ≡ false =
    ne_eqb _ _ (λ e. c.if-len-self.false (cc)) in
    let stage = rw more at next.1.0 in
    let none = c.in_ok-header.ensures.kept ∙ c.requires.none in
    (next.0, rw (none, stage) (refl, rw stage at next.1.1))
