-- Acts that are legal one after another, from one world to another.
use Rattle.std.specs.Prelude.{◌≡◌, ℕ, ◌==◌, if◌then◌else◌, List, [], ◌∷◌, Some}
use Rattle.ho_world.specs.Acts.{Act, AllHold}
use Rattle.ho_world.specs.World.{State, World, step}

-- a world with another state at one object
abbrev pub changed : World → ℕ → State → World
changed w o s = record w { at = λ n. if n == o then s else w.at n }

-- from w, the acts are steps of their objects one after another, what they read is true when they come, and the world
-- is v afterwards. `begun` has the states in which the kernel began.
unfoldable pub Acted : (ℕ → State) → World → List Act → World → Type 0
Acted begun w [] v = (o : ℕ) → v.at o ≡ w.at o
Acted begun w (a ∷ acts) v =
    (s : State) × (step (w.at a.object) a.event a.reply ≡ Some s) × AllHold begun w.at a.claims × Acted begun (changed w a.object s) acts v
