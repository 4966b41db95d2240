use Rattle.book.proofs.Reaching.{sound_made, sound_kept}
use Rattle.book.proofs.soundness.soundness_stands.Goals as goal

pub returns : goal.returns
returns g c = record { made = sound_made g.S.Reading; kept = sound_kept g.S.Reading }
