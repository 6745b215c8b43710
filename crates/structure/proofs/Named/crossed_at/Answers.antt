use native.Mathlib.Omega.{arith}
use Rattle.structure.specs.Walking.{crossed_by}
use Rattle.structure.proofs.Checking.{tells_true, tells_false}
use Rattle.structure.proofs.Named.crossed_at.Goals as goal

pub returns-then-n-end : goal.returns-then-n-end
returns-then-n-end c = tells_false (elim [ crossed_by b o ↦ omega arith ])

pub loop-b-init : goal.loop-b-init
loop-b-init c = λ k l o. omega arith

pub returns-then-v-n : goal.returns-then-v-n
returns-then-v-n c =
    tells_true (crossed_by c.loop-b.b (record { right = omega arith; within = omega arith; past = omega arith; pair = omega arith }))

pub returns : goal.returns
returns c = tells_false (elim [ crossed_by b o ↦ c.loop-b.invariant b (omega arith) o ])
