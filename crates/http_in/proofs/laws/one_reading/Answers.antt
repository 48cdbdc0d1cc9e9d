use Rattle.http_in.proofs.OneReading.{one_reading_holds}
use Rattle.http_in.proofs.laws.one_reading.Goals as goal

pub returns : goal.returns
returns c = one_reading_holds
