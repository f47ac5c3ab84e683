-- The reader that was lent may read each page, and has the host's files; the log part and the writer come back as they were lent.
use Rattle.std.proofs.Common.{◌++◌, ap, ◌∙◌, arith}
use Rattle.std.specs.Prelude.{option_to_list}
use Rattle.pm_engine.proofs.AppliedCommands.{applied_there}
use Rattle.pm_engine.proofs.LentReaders.{clean_there, reader_is, reader_has, none_else, reader_usable, reader_reads, back_quiet, back_rose, refused_world, back_world}
use Rattle.pm_engine.proofs.frame_store.FrameStore.apply.Goals as goal

pub apply_with-store-requires-clause-usable : goal.apply_with-store-requires-clause-usable
apply_with-store-requires-clause-usable g c =
    let state = g.H.Reader.Device.state in
    let host = g.H.Device.state c.args.host.now in
    let all = c.pop.ensures.items ∙ ap (λ o. c.pop.new.self.items ++ option_to_list o) c.unwrap-reader.ensures in
    reader_usable (state c.unwrap-reader.result) host (reader_is state host c.in-Ok.lent.readers.items c.pop.new.self.items c.unwrap-reader.result all c.in-Ok.ensures.parts.readers) c.requires.usable

pub apply_with-store-requires-clause-each : goal.apply_with-store-requires-clause-each
apply_with-store-requires-clause-each g c =
    let state = g.H.Reader.Device.state in
    let host = g.H.Device.state c.args.host.now in
    let all = c.pop.ensures.items ∙ ap (λ o. c.pop.new.self.items ++ option_to_list o) c.unwrap-reader.ensures in
    reader_reads (state c.unwrap-reader.result) host (reader_is state host c.in-Ok.lent.readers.items c.pop.new.self.items c.unwrap-reader.result all c.in-Ok.ensures.parts.readers)

pub apply_with-store-requires-clause-clean : goal.apply_with-store-requires-clause-clean
apply_with-store-requires-clause-clean g c t =
    let told = g.met.H.Host.parts_tell.0.0 t in
    let history = g.H.Reader.Device.history in
    let host = g.H.Device.history c.args.host.now in
    let all = c.pop.ensures.items ∙ ap (λ o. c.pop.new.self.items ++ option_to_list o) c.unwrap-reader.ensures in
    let begins = reader_has g.H.Reader.Device.state (g.H.Device.state c.args.host.now) c.in-Ok.lent.readers.items c.pop.new.self.items c.unwrap-reader.result all history host (c.in-Ok.ensures.begin told).readers in
    clean_there c.args.self host.world (history c.unwrap-reader.result).world begins.pages (c.requires.clean told)

pub returns-in-Ok-clause-applies : goal.returns-in-Ok-clause-applies
returns-in-Ok-clause-applies g c =
    let state = g.H.Reader.Device.state in
    let history = g.H.Reader.Device.history in
    let host = g.H.Device.history c.args.host.now in
    let before = g.H.Device.state c.args.host.now in
    let lent = g.H.Device.state c.lend.new.self in
    let after = g.H.Device.state c.take_back.new.self in
    let reader = c.unwrap-reader.result in
    let rest = c.pop.new.self.items in
    let all = c.pop.ensures.items ∙ ap (λ o. rest ++ option_to_list o) c.unwrap-reader.ensures in
    let none = none_else state before c.in-Ok.lent.readers.items rest reader all (omega (arith, c.in-Ok.ensures.many, c.in-Ok.lent.readers.ok.0)) in
    let parts = c.in-Ok.ensures.parts in
    let r = c.apply_with-store.result in
    let log = g.H.Log.Device.state c.in-Ok.lent.log in
    let writer = g.H.Writer.Device.state c.in-Ok.lent.writer in
    let now = c.push_reserved.new.self.items in
    record {
      back = r.1;
      applied = applied_there g.H.Reader.Device.tells history state c.args.cmd.now c.args.self r.0 host.world (history reader).world c.args.replies.now c.apply_with-store.new.replies r.1 r.2
          (λ t. (reader_has state before c.in-Ok.lent.readers.items rest reader all history host (c.in-Ok.ensures.begin (g.met.H.Host.parts_tell.0.0 t)).readers).pages) c.apply_with-store.ensures.applies;
      quiet = back_quiet before lent c.lend.result c.requires.usable c.lend.ensures.lends c.in-Ok.ensures.lends.lent state after log writer rest now r.1 parts.log parts.writer none c.push_reserved.ensures.items c.take_back.ensures.returns;
      rose = back_rose before lent c.lend.result c.requires.usable c.lend.ensures.lends c.in-Ok.ensures.lends.lent state after log writer rest now r.1 parts.log parts.writer none c.push_reserved.ensures.items c.take_back.ensures.returns;
    }

pub returns-in-Ok-clause-world : goal.returns-in-Ok-clause-world
returns-in-Ok-clause-world g c = λ t.
    let at = g.H.Device.history in
    let told = g.met.H.Host.parts_tell in
    let begin = c.in-Ok.ensures.begin t in
    back_world (at c.args.host.now) (at c.lend.new.self) c.lend.result (g.H.Device.sound c.args.host.now t) (c.lend.ensures.does t) (at c.take_back.new.self) (g.H.Log.Device.history c.in-Ok.lent.log) (g.H.Writer.Device.history c.in-Ok.lent.writer)
    begin.log begin.writer (g.H.Log.Device.sound c.in-Ok.lent.log (told.2.1 t)) (g.H.Writer.Device.sound c.in-Ok.lent.writer (told.1.1 t)) (c.take_back.ensures.joins t)

pub returns-in-Err-clause-world : goal.returns-in-Err-clause-world
returns-in-Err-clause-world g c = λ t. refused_world (g.H.Device.history c.args.host.now) (g.H.Device.history c.lend.new.self) c.lend.result (g.H.Device.sound c.args.host.now t) (c.lend.ensures.does t)
