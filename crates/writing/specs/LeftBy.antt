-- What a write or a delete leaves in the buffers. Assumes nothing.
use Rattle.refusal.specs.Refusal.{Answer, accepted, ◌>>=◌}
use Rattle.meaning.specs.OwnSteps.{Done}
use Rattle.layout.specs.Image.{encode}
use Rattle.layout.specs.Messages.{encode_outgoing}
use Rattle.layout.specs.Calls.{Left}

abbrev pub left_by : Answer Done → Answer Left
left_by a = a >>= λ d. accepted (record { image = encode d.state; out = encode_outgoing d.message; count = 0 })
