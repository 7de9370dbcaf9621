use Rattle.std.proofs.Common.{ap}
use Rattle.program.proofs.Input.{first_bytes}
use Rattle.program.proofs.read_input.Goals as goal

pub returns : goal.returns
returns g c = first_bytes 65536 c.take.result.limit (g.R.Read.remaining c.args.from) (g.R.Read.remaining c.take.result.inner) c.new-bytes.result.items _ c.take.ensures.limit (ap g.R.Read.remaining c.take.ensures.inner) c.new-bytes.ensures.items c.in_ok-read_to_end.ensures.bytes
