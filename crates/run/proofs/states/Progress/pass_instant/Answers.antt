use Rattle.std.proofs.Common.{Some, None, refl, sym, ap, subst, rules}
use Rattle.field.specs.declared.Settings.{Settings}
use Rattle.history.specs.Limits.{LinksKeep}
use Rattle.history.specs.Worlds.{Lent}
use Rattle.run.specs.Standing.{field_given, given, stands}
use Rattle.run.proofs.Loans.{given_same}
use Rattle.run.proofs.NoneSends.{silent_between}
use Rattle.run.proofs.Whole.{bytes_written, quiet_played, ready, room_left, sent_played}
use Rattle.run.proofs.states.Progress.pass_instant.Goals as goal

pub returns-then-not-open_silent_rows-clause-value : goal.returns-then-not-open_silent_rows-clause-value
returns-then-not-open_silent_rows-clause-value g c =
    let inputs = given g.N.Numbering.meaning g.D.DelayRule.period g.A.Air.carries c.args.self.now c.args.lent.now in
    let world = stands c.args.self.now None c.args.lent.now in
    let opened = c.open_silent_rows.new in
    quiet_played inputs world refl c.requires.checked c.requires.opens (stands opened.self (Some 0) opened.lent) c.open_silent_rows.ensures.value (search rules) c.args.used c.args.log.now

pub open_silent_rows-requires-clause-silent : goal.open_silent_rows-requires-clause-silent
open_silent_rows-requires-clause-silent g c = silent_between (field_given g.N.Numbering.meaning c.args.self.now c.args.lent.now) (stands c.args.self.now None c.args.lent.now) refl c.requires.checked

pub pass_copies-requires-clause-links : goal.pass_copies-requires-clause-links
pass_copies-requires-clause-links g c =
    let inputs = given g.N.Numbering.meaning g.D.DelayRule.period g.A.Air.carries c.args.self.now c.args.lent.now in
    let world = stands c.args.self.now None c.args.lent.now in
    let opened = c.open_silent_rows.new in
    let told = c.open_silent_rows.ensures in
    let same = given_same g.N.Numbering.meaning g.D.DelayRule.period g.A.Air.carries c.args.self.now opened.self c.args.lent.now opened.lent told.lent told.settings told.links in
    let is = ready inputs world refl c.requires.checked c.requires.opens (g.met.N.Numbering.follows c.args.lent.now.numbering.now) (g.met.D.DelayRule.keeps c.args.lent.now.delay.now) (stands opened.self (Some 0) opened.lent) told.value in
    subst (λ (l : Lent _). LinksKeep l.field) (sym same) is.0

pub pass_copies-requires-clause-there : goal.pass_copies-requires-clause-there
pass_copies-requires-clause-there g c =
    let inputs = given g.N.Numbering.meaning g.D.DelayRule.period g.A.Air.carries c.args.self.now c.args.lent.now in
    let world = stands c.args.self.now None c.args.lent.now in
    let opened = c.open_silent_rows.new in
    let told = c.open_silent_rows.ensures in
    let is = ready inputs world refl c.requires.checked c.requires.opens (g.met.N.Numbering.follows c.args.lent.now.numbering.now) (g.met.D.DelayRule.keeps c.args.lent.now.delay.now) (stands opened.self (Some 0) opened.lent) told.value in
    rw told.settings is.1

pub pass_copies-requires-clause-room : goal.pass_copies-requires-clause-room
pass_copies-requires-clause-room g c =
    let inputs = given g.N.Numbering.meaning g.D.DelayRule.period g.A.Air.carries c.args.self.now c.args.lent.now in
    let world = stands c.args.self.now None c.args.lent.now in
    let opened = c.open_silent_rows.new in
    let told = c.open_silent_rows.ensures in
    let same = given_same g.N.Numbering.meaning g.D.DelayRule.period g.A.Air.carries c.args.self.now opened.self c.args.lent.now opened.lent told.lent told.settings told.links in
    let start = bytes_written inputs world opened.self.settings.n (ap (λ (s : Settings). s.n) told.settings) (stands opened.self (Some 0) opened.lent) told.value in
    room_left inputs world _ same _ start c.args.used _ c.requires.room

pub returns-clause-value : goal.returns-clause-value
returns-clause-value g c =
    let inputs = given g.N.Numbering.meaning g.D.DelayRule.period g.A.Air.carries c.args.self.now c.args.lent.now in
    let world = stands c.args.self.now None c.args.lent.now in
    let opened = c.open_silent_rows.new in
    let told = c.open_silent_rows.ensures in
    let same = given_same g.N.Numbering.meaning g.D.DelayRule.period g.A.Air.carries c.args.self.now opened.self c.args.lent.now opened.lent told.lent told.settings told.links in
    let start = bytes_written inputs world opened.self.settings.n (ap (λ (s : Settings). s.n) told.settings) (stands opened.self (Some 0) opened.lent) told.value in
    sent_played inputs world refl c.requires.checked c.requires.opens _ same c.args.used _ _ start c.args.log.now _ _ c.pass_copies.ensures.value
