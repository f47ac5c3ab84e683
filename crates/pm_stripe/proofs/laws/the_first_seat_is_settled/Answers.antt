use Rattle.pm_stripe.proofs.FirstSeats.{first_settled}
use Rattle.pm_stripe.proofs.laws.the_first_seat_is_settled.Goals as goal

pub returns : goal.returns
returns c = first_settled
