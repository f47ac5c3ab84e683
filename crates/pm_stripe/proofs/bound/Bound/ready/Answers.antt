use Rattle.std.proofs.Common.{rules, false, true, refl, sym, ◌∙◌, arith}
use Rattle.pm_stripe.proofs.BegunOperations as begun
use Rattle.pm_stripe.proofs.bound.Bound.ready.Goals as goal

pub operation_room-requires : goal.operation_room-requires
operation_room-requires g c =
    record { size = c.put_back.ensures.puts.holds.shaped.page_size }

pub sweep-requires-clause-holds : goal.sweep-requires-clause-holds
sweep-requires-clause-holds g c =
    c.put_back.ensures.puts.holds

pub sweep-requires-clause-few : goal.sweep-requires-clause-few
sweep-requires-clause-few g c =
    begun.few_free g.R.Device.tells g.R.Device.history g.R.Device.state c.args.self.now c.requires.bound c.put_back.new.self c.put_back.new.seat c.put_back.ensures.puts c.put_back.ensures.same

pub returns-then-left-operation_room-clause-makes : goal.returns-then-left-operation_room-clause-makes
returns-then-left-operation_room-clause-makes g c =
    begun.makes_none g.R.Device.tells g.R.Device.history g.R.Device.state c.args.self.now c.requires.bound c.put_back.new.self c.put_back.new.seat c.put_back.ensures.puts c.put_back.ensures.same

pub returns-then-left-operation_room-clause-untried : goal.returns-then-left-operation_room-clause-untried
returns-then-left-operation_room-clause-untried g c =
    begun.tries_none g.R.Device.tells g.R.Device.history g.R.Device.state c.args.self.now c.requires.bound c.put_back.new.self c.put_back.new.seat c.put_back.ensures.puts c.put_back.ensures.same

pub returns-then-self-clause-makes : goal.returns-then-self-clause-makes
returns-then-self-clause-makes g c = search (rules, begun.makes_none, begun.makes_swept)

pub returns-then-self-clause-untried : goal.returns-then-self-clause-untried
returns-then-self-clause-untried g c = search (rules, begun.tries_none)

pub returns-then-left-operation_room-clause-lacking : goal.returns-then-left-operation_room-clause-lacking
returns-then-left-operation_room-clause-lacking g c =
    begun.lacks_log g.R.Device.tells g.R.Device.history g.R.Device.state c.args.self.now c.requires.bound c.put_back.new.self c.put_back.new.seat c.put_back.ensures.puts c.put_back.ensures.same c.spare-left.result c.spare-left.ensures (omega (arith, c.if-left-operation_room.true, c.operation_room.ensures))

pub returns-then-self-clause-lacking : goal.returns-then-self-clause-lacking
returns-then-self-clause-lacking g c =
    record { room = (begun.has_room g.R.Device.tells g.R.Device.history g.R.Device.state c.args.self.now c.requires.bound c.put_back.new.self c.put_back.new.seat c.put_back.ensures.puts c.put_back.ensures.same c.spare-left.result c.spare-left.ensures (omega (arith, c.if-left-operation_room.false, c.operation_room.ensures))); running = sym c.put_back.ensures.same.is_running ∙ c.if-self.true; none = refl }

pub returns-then-len-clause-makes : goal.returns-then-len-clause-makes
returns-then-len-clause-makes g c =
    begun.makes_swept g.R.Device.tells g.R.Device.history g.R.Device.state c.args.self.now c.requires.bound c.put_back.new.self c.put_back.new.seat c.put_back.ensures.puts c.put_back.ensures.same
    c.sweep.new.self c.sweep.new.seat c.sweep.ensures.sweeps c.sweep.ensures.same false

pub returns-then-len-clause-lacking : goal.returns-then-len-clause-lacking
returns-then-len-clause-lacking g c =
    begun.lacks_frames g.R.Device.tells g.R.Device.history g.R.Device.state c.args.self.now c.requires.bound c.put_back.new.self c.put_back.new.seat c.put_back.ensures.puts c.put_back.ensures.same
    c.sweep.new.self c.sweep.new.seat c.sweep.ensures.sweeps c.sweep.ensures.same false c.frames.result (c.frames.ensures ∙ c.sweep.ensures.sweeps.gathers.holds.many) (omega (arith, c.if-len.true, c.len.ensures)) (begun.has_room g.R.Device.tells g.R.Device.history g.R.Device.state c.args.self.now c.requires.bound c.put_back.new.self c.put_back.new.seat c.put_back.ensures.puts c.put_back.ensures.same c.spare-left.result c.spare-left.ensures (omega (arith, c.if-left-operation_room.false, c.operation_room.ensures))) (sym c.put_back.ensures.same.is_running ∙ c.if-self.false)

pub returns-then-len-clause-exact : goal.returns-then-len-clause-exact
returns-then-len-clause-exact g c =
    λ knows. begun.known_few g.R.Device.tells g.R.Device.history g.R.Device.state c.args.self.now c.requires.bound c.put_back.new.self c.put_back.new.seat c.put_back.ensures.puts c.put_back.ensures.same
    c.sweep.new.self c.sweep.new.seat c.sweep.ensures.sweeps c.sweep.ensures.same knows (omega (arith, c.if-len.true, c.len.ensures))

pub returns-clause-makes : goal.returns-clause-makes
returns-clause-makes g c =
    begun.makes_swept g.R.Device.tells g.R.Device.history g.R.Device.state c.args.self.now c.requires.bound c.put_back.new.self c.put_back.new.seat c.put_back.ensures.puts c.put_back.ensures.same
    c.sweep.new.self c.sweep.new.seat c.sweep.ensures.sweeps c.sweep.ensures.same true

pub returns-clause-begins : goal.returns-clause-begins
returns-clause-begins g c =
    begun.begins g.R.Device.tells g.R.Device.history g.R.Device.state c.args.self.now c.requires.bound c.put_back.new.self c.put_back.new.seat c.put_back.ensures.puts c.put_back.ensures.same
    c.sweep.new.self c.sweep.new.seat c.sweep.ensures.sweeps c.sweep.ensures.same (omega (arith, c.if-len.false, c.len.ensures)) (begun.has_room g.R.Device.tells g.R.Device.history g.R.Device.state c.args.self.now c.requires.bound c.put_back.new.self c.put_back.new.seat c.put_back.ensures.puts c.put_back.ensures.same c.spare-left.result c.spare-left.ensures (omega (arith, c.if-left-operation_room.false, c.operation_room.ensures)))

pub returns-clause-ready : goal.returns-clause-ready
returns-clause-ready g c =
    begun.asks g.R.Device.tells g.R.Device.history g.R.Device.state c.args.self.now c.requires.bound c.put_back.new.self c.put_back.new.seat c.put_back.ensures.puts c.put_back.ensures.same
    c.sweep.new.self c.sweep.new.seat c.sweep.ensures.sweeps c.sweep.ensures.same (omega (arith, c.if-len.false, c.len.ensures)) (begun.has_room g.R.Device.tells g.R.Device.history g.R.Device.state c.args.self.now c.requires.bound c.put_back.new.self c.put_back.new.seat c.put_back.ensures.puts c.put_back.ensures.same c.spare-left.result c.spare-left.ensures (omega (arith, c.if-left-operation_room.false, c.operation_room.ensures)))

pub returns-clause-lacking : goal.returns-clause-lacking
returns-clause-lacking g c =
    ((begun.has_room g.R.Device.tells g.R.Device.history g.R.Device.state c.args.self.now c.requires.bound c.put_back.new.self c.put_back.new.seat c.put_back.ensures.puts c.put_back.ensures.same c.spare-left.result c.spare-left.ensures (omega (arith, c.if-left-operation_room.false, c.operation_room.ensures))), (sym c.put_back.ensures.same.is_running ∙ c.if-self.false))

pub returns-clause-exact : goal.returns-clause-exact
returns-clause-exact g c =
    λ knows. begun.known_enough g.R.Device.tells g.R.Device.history g.R.Device.state c.args.self.now c.requires.bound c.put_back.new.self c.put_back.new.seat c.put_back.ensures.puts c.put_back.ensures.same
    c.sweep.new.self c.sweep.new.seat c.sweep.ensures.sweeps c.sweep.ensures.same knows (omega (arith, c.if-len.false, c.len.ensures))
