use Rattle.pm_engine.proofs.JoinedPairs.{pairs_by_part}
use Rattle.pm_engine.proofs.StoreMaps.{value_by_part, reply_by_part, accepted_by_part, after_by_part}
use Rattle.pm_engine.proofs.laws.a_store_is_its_partitions.Goals as goal

pub returns-clause-value : goal.returns-clause-value
returns-clause-value c = λ shape pages well at some. value_by_part shape pages well at some

pub returns-clause-reply : goal.returns-clause-reply
returns-clause-reply c = λ shape pages well part line below is free. reply_by_part shape pages well part line below is free

pub returns-clause-accepted : goal.returns-clause-accepted
returns-clause-accepted c = λ shape pages well part line below is. accepted_by_part shape pages well part line below is

pub returns-clause-after : goal.returns-clause-after
returns-clause-after c = λ shape part line old new below is well runs. after_by_part shape part line old new below is well runs

pub returns-clause-pairs : goal.returns-clause-pairs
returns-clause-pairs c = λ shape pages some well cache pairs all rising. pairs_by_part shape pages some well cache pairs all rising
