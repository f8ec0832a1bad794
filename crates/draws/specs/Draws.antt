-- Draws: n starting leaves, then one leaf for each request, in one list. Which of them a list of requests shows, and the rearrangement of the draws
-- under which another list of requests shows the same leaves. All of it follows from the ids alone. Assumes nothing.
use Rattle.std.specs.Prelude.{ℕ, zero, suc, pred, ◌+◌, ◌<◌, ◌≤◌, Bool, cond, List, [], ◌∷◌, ◌++◌, map, length, get_or, set, take, drop, eqb}
use Rattle.bags.specs.Bags.{cnt, those}

-- ids are 1 to n
abbrev pub AllGood : ℕ → List ℕ → Type 0
AllGood n [] = Unit {0}
AllGood n (u ∷ us) = (0 < u) × (u ≤ n) × AllGood n us

-- ---- what is shown: from positions (that of id u at place u - 1), for a list of ids, with a draw for each. A request shows the id's position, and
-- then the draw is the id's position

unfoldable pub shown : List ℕ → List ℕ → List ℕ → List ℕ
shown positions [] draws = []
shown positions (u ∷ us) [] = []
shown positions (u ∷ us) (x ∷ draws) = get_or positions (pred u) 0 ∷ shown (set positions (pred u) x) us draws

-- with all draws in one list: the first n are the starting leaves
unfoldable pub leaves_shown : ℕ → List ℕ → List ℕ → List ℕ
leaves_shown n us draws = shown (take n draws) us (drop n draws)

-- the leaf last drawn for an id, among requests with their draws; its starting leaf where there is none
abbrev pub last_drawn : ℕ → ℕ → List ℕ → List ℕ → ℕ
last_drawn start u [] draws = start
last_drawn start u (v ∷ vs) [] = start
last_drawn start u (v ∷ vs) (x ∷ draws) = last_drawn (cond (eqb u v) x start) u vs draws

-- ---- the same with numbers in the place of leaves: draw i has number i

-- the numbers a, a + 1, .., n of them
abbrev pub from : ℕ → ℕ → List ℕ
from a zero = []
from a (suc n) = a ∷ from (suc a) n

-- the numbers of the draws shown, in order
unfoldable pub indices : ℕ → List ℕ → List ℕ
indices n us = leaves_shown n us (from 0 (n + length us))

-- how often k stands in a list; whether it does not
abbrev pub times : ℕ → List ℕ → ℕ
times k xs = cnt (eqb k) xs

abbrev pub absent : List ℕ → ℕ → Bool
absent ks k = eqb (times k ks) 0

-- the numbers of the draws that are not shown, rising
unfoldable pub unshown : ℕ → List ℕ → List ℕ
unshown n us = those (absent (indices n us)) (from 0 (n + length us))

-- ---- the rearrangement

-- the draws in the order in which they are shown, and then the others
unfoldable pub order : ℕ → List ℕ → List ℕ
order n us = indices n us ++ unshown n us

-- what stands in vs at the place that k has in ks
abbrev pub look : List ℕ → List ℕ → ℕ → ℕ
look [] vs k = 0
look (x ∷ ks) [] k = 0
look (x ∷ ks) (v ∷ vs) k = cond (eqb x k) v (look ks vs k)

-- for the requests us and vs: number i of this list is the draw of us that is draw i of vs
unfoldable pub rearrange : ℕ → List ℕ → List ℕ → List ℕ
rearrange n us vs = map (look (order n vs) (order n us)) (from 0 (n + length us))

-- draws by their numbers
unfoldable pub rearranged : List ℕ → List ℕ → List ℕ
rearranged draws is = map (λ i. get_or draws i 0) is
