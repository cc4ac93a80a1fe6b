-- The lines of the sessions, one after another.
use Rattle.std.proofs.Common.{◌≡◌, ℕ, ◌+◌, ◌<◌, ◌-◌, zero, suc, List, [], ◌++◌, refl, sym, ap, subst, ◌∙◌, append_assoc, append-nil, add-one, arith}
use Rattle.std.specs.declared.option.Option.{Option}
use Rattle.vx_base.specs.declared.event.Event.{Event}
use Rattle.vx_script.specs.Puts.{PutsPart}
use Rattle.vx_script.specs.Output.{session_text, sessions_text}
use Rattle.vx_script.proofs.Pieces.{puts_part}

pub sessions_text-more : (history : List Event) (n : ℕ) → sessions_text history (n + 1) ≡ sessions_text history n ++ session_text history n
unfolding sessions_text
sessions_text-more history n = rw (add-one n) refl

-- the lines of the sessions from n on, k of them
later_text : List Event → ℕ → ℕ → List ℕ
later_text history n zero = []
later_text history n (suc k) = session_text history n ++ later_text history (n + 1) k

split_text : (history : List Event) (n k : ℕ) → sessions_text history n ++ later_text history n k ≡ sessions_text history (n + k)
unfolding later_text
split_text history n zero = append-nil (sessions_text history n) ∙ ap (sessions_text history) (omega arith)
split_text history n (suc k) =
    sym (append_assoc (sessions_text history n) (session_text history n) (later_text history (n + 1) k))
    ∙ ap (λ (x : List ℕ). x ++ later_text history (n + 1) k) (sym (sessions_text-more history n))
    ∙ split_text history (n + 1) k
    ∙ ap (sessions_text history) (omega arith)

-- a fault in a session's lines is one in those of all
pub sessions_broken : {a b : Option (List ℕ)} {f g : ℕ} {w : List ℕ} (history : List Event) (n m : ℕ) → n < m → PutsPart a b f g w (sessions_text history n ++ session_text history n)
    → PutsPart a b f g w (sessions_text history m)
sessions_broken {a} {b} {f} {g} {w} history n m lt p =
    let more : sessions_text history n ++ session_text history n ≡ sessions_text history (n + 1) = sym (sessions_text-more history n) in
    let all : sessions_text history (n + 1) ++ later_text history (n + 1) (m - (n + 1)) ≡ sessions_text history m =
    split_text history (n + 1) (m - (n + 1)) ∙ ap (sessions_text history) (omega arith) in
    subst (PutsPart a b f g w) all (puts_part _ (subst (PutsPart a b f g w) more p))
