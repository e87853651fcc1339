use Rattle.generator_draw.specs.Draw.{draw}
use Rattle.generator_draw.proofs.draw.Goals as goal

pub returns : goal.returns
unfolding draw
returns c = rw (c.shifted_left-2.ensures, c.shifted_left.ensures)
