-- A flood is over before the next begins: how long a message has left to go. Assumes nothing.
use Rattle.std.proofs.Common.{◌≡◌, ℕ, ◌+◌, ◌-◌, ◌*◌, ◌≤◌, ap, arith}
use Rattle.std.proofs.Math.Nat.{mul-le-mul_right, add-mul, one-mul}

-- the instants that a message has yet to wait after the next sensor sends it, at most: a forwarding period for each further hop
pub to_come : ℕ → ℕ → ℕ
to_come tmax hop = (hop - 1) * tmax

one_hop : (tmax hop : ℕ) → 1 ≤ hop → to_come tmax hop + tmax ≡ hop * tmax
unfolding to_come
one_hop tmax hop some =
    let parts : (hop - 1 + 1) * tmax ≡ (hop - 1) * tmax + 1 * tmax = add-mul (hop - 1) 1 tmax in
    let whole : (hop - 1 + 1) * tmax ≡ hop * tmax = ap (λ (h : ℕ). h * tmax) (omega arith) in
    omega (arith, parts, whole, one-mul tmax)

-- a message of at most hmax hops leaves a period of the whole time
pub within_whole : (tmax hmax hop : ℕ) → 1 ≤ hmax → hop ≤ hmax → to_come tmax hop + tmax ≤ hmax * tmax
unfolding to_come
within_whole tmax hmax hop some few =
    let less : (hop - 1) * tmax ≤ (hmax - 1) * tmax = mul-le-mul_right tmax (omega arith) in
    omega (arith, less, one_hop tmax hmax some)

-- one hop less is one period less
pub hop_less : (tmax hop : ℕ) → 2 ≤ hop → to_come tmax (hop - 1) + tmax ≡ to_come tmax hop
unfolding to_come
hop_less tmax hop some =
    one_hop tmax (hop - 1) (omega arith)
