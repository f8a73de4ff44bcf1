-- `entries::is_faulty`. One case for each fault; the place is below what that fault counts.
use native.Mathlib.Omega.{arith}
use Rattle.entries.proofs.is_faulty.Goals as goal

pub is_outside-requires : goal.is_outside-requires
is_outside-requires c = omega (arith, rw c.in-Range.is at c.requires)

pub is_badly_shared-requires : goal.is_badly_shared-requires
is_badly_shared-requires c = omega (arith, rw c.in-Shared.is at c.requires)

pub is_unserved-requires : goal.is_unserved-requires
is_unserved-requires c = omega (arith, rw c.in-NoLane.is at c.requires)

pub returns-in-Range : goal.returns-in-Range
returns-in-Range c = rw c.in-Range.is c.is_outside.ensures

pub returns-in-Shared : goal.returns-in-Shared
returns-in-Shared c = rw c.in-Shared.is c.is_badly_shared.ensures

pub returns-in-NoLane : goal.returns-in-NoLane
returns-in-NoLane c = rw c.in-NoLane.is c.is_unserved.ensures
