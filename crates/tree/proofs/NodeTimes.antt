-- A node's time follows from its parent's and what is fetched for it.
use Rattle.std.proofs.Common.{◌≡◌, ℕ, ◌+◌, ◌/◌, ◌%◌, ◌^◌, ◌≤◌, ◌<◌, arith, lt-ltb, ne_eqb}
use Rattle.codes.specs.Fetch.{Fetched, value}
use Rattle.tree.specs.Outcomes.{gives}
use Rattle.tree.specs.Times.{under, node_time_in, node_time}
use Rattle.tree.proofs.Heights.{height-zero, height-step}

-- above the root
pub time-above : (fetch : ℕ → Fetched) → node_time fetch 0 ≡ gives 0
unfolding node_time node_time_in
time-above fetch = rw height-zero

pub time-step : (fetch : ℕ → Fetched) (v : ℕ) → 1 ≤ v → node_time fetch v ≡ under v (node_time fetch (v / 2)) (fetch v)
unfolding node_time node_time_in
time-step fetch v h = rw (height-step v h)

-- a right child, where its time is not refused
pub time-right : (v p d : ℕ) → v % 2 ≡ 1 → p + d < 2 ^ 32 → gives (p + d) ≡ under v (gives p) (value d)
time-right v p d e h = rw (ne_eqb (v % 2) 0 (λ z. omega arith), lt-ltb (p + d) (2 ^ 32) h)
