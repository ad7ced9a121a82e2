-- What is left of what has arrived.
use Rattle.std.proofs.Common.{◌≡◌, ◌∙◌, ℕ, ◌+◌, ◌-◌, ◌≤◌, List, [], ◌∷◌, ◌++◌, length, take, drop, sym, ap, arith, append_assoc, length-drop, length-append}
use Rattle.std.proofs.lemmas.List.{drop-drop, drop-take, length-take-le}
use Rattle.std.proofs.Math.Seq.{drop-append_seam, drop-length}

-- the last bytes of a part
pub left_last : (xs : List ℕ) (from until left : ℕ) → from ≤ until → until ≤ length xs → left ≤ length (take (until - from) (drop from xs))
    → take (until - (until - left)) (drop (until - left) xs) ≡ drop (length (take (until - from) (drop from xs)) - left) (take (until - from) (drop from xs))
left_last xs from until left within end few =
    let all : length (take (until - from) (drop from xs)) ≡ until - from =
    length-take-le (until - from) (drop from xs) (omega (arith, length-drop from xs, within, end)) in
    let k = (until - from) - left in
    let one : until - (until - left) ≡ left = omega (arith, all, few, within) in
    let two : until - left ≡ from + k = omega (arith, all, few, within) in
    let three : k + left ≡ until - from = omega (arith, all, few, within) in
    ap (λ (n : ℕ). take n (drop (until - left) xs)) one
    ∙ ap (λ (n : ℕ). take left (drop n xs)) two
    ∙ ap (λ (l : List ℕ). take left l) (sym (drop-drop k from xs))
    ∙ sym (drop-take k left (drop from xs))
    ∙ ap (λ (n : ℕ). drop k (take n (drop from xs))) three
    ∙ ap (λ (n : ℕ). drop (n - left) (take (until - from) (drop from xs))) (sym all)

-- what stands behind a line feed
pub behind_feed : (xs end rest : List ℕ) → xs ≡ end ++ 10 ∷ rest → drop (length xs - length rest) xs ≡ rest
behind_feed xs end rest is =
    let all : xs ≡ (end ++ 10 ∷ []) ++ rest = is ∙ sym (append_assoc end (10 ∷ []) rest) in
    let count : length xs - length rest ≡ length (end ++ 10 ∷ []) = omega (arith, ap length all, length-append (end ++ 10 ∷ []) rest) in
    ap (λ (n : ℕ). drop n xs) count ∙ ap (λ (l : List ℕ). drop (length (end ++ 10 ∷ [])) l) all ∙ drop-append_seam (end ++ 10 ∷ []) rest

pub none_left : (xs : List ℕ) → drop (length xs - 0) xs ≡ []
none_left xs =
    let count : length xs - 0 ≡ length xs = omega arith in
    ap (λ (n : ℕ). drop n xs) count ∙ drop-length xs
