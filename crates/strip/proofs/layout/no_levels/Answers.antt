-- The first end is 7 + 5h, where the parts start; a number below 2^64 has a height of at most 64, so that it fits.
use native.Mathlib.Omega.{arith}
use Rattle.tree.proofs.Promises.{height-least}
use Rattle.strip.proofs.layout.no_levels.Goals as goal

pub overflow_mul-levels : goal.overflow_mul-levels
overflow_mul-levels c = omega (arith, height-least.least c.args.n 64 (omega arith))

pub overflow_add-levels : goal.overflow_add-levels
overflow_add-levels c = omega (arith, height-least.least c.args.n 64 (omega arith))

pub returns : goal.returns
returns c = rw c.height.ensures
