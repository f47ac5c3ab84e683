use Rattle.pm_stripe.proofs.EndedRounds as round
use Rattle.pm_stripe.proofs.bound.Bound.end.Goals as goal

pub returns-clause-rest : goal.returns-clause-rest
returns-clause-rest g c =
    round.rest g.R.Device.tells g.R.Device.history g.R.Device.state c.args.self c.put_back.new.self c.put_free.new.self c.put_back.new.seat c.put_free.new.seat
    c.requires.bound c.put_back.ensures.puts c.put_back.ensures.same c.next_sweep.result c.next_sweep.ensures c.put_free.ensures.frees c.put_free.ensures.none c.put_free.ensures.same

pub returns-clause-reads : goal.returns-clause-reads
returns-clause-reads g c =
    round.reads g.R.Device.tells g.R.Device.history g.R.Device.state c.args.self c.put_back.new.self c.put_free.new.self c.put_back.new.seat c.put_free.new.seat
    c.requires.bound c.put_back.ensures.puts c.put_back.ensures.same c.next_sweep.result c.next_sweep.ensures c.put_free.ensures.frees c.put_free.ensures.none c.put_free.ensures.same

pub returns-clause-clean : goal.returns-clause-clean
returns-clause-clean g c =
    round.clean g.R.Device.tells g.R.Device.history g.R.Device.state c.args.self c.put_back.new.self c.put_free.new.self c.put_back.new.seat c.put_free.new.seat
    c.requires.bound c.put_back.ensures.puts c.put_back.ensures.same c.next_sweep.result c.next_sweep.ensures c.put_free.ensures.frees c.put_free.ensures.none c.put_free.ensures.same

pub returns-clause-ends : goal.returns-clause-ends
returns-clause-ends g c =
    round.ends g.R.Device.tells g.R.Device.history g.R.Device.state c.args.self c.put_back.new.self c.put_free.new.self c.put_back.new.seat c.put_free.new.seat
    c.requires.bound c.put_back.ensures.puts c.put_back.ensures.same c.next_sweep.result c.next_sweep.ensures c.put_free.ensures.frees c.put_free.ensures.none c.put_free.ensures.same
