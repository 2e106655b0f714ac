-- For the private functions: rules noted for nonterminals. Nobody has to believe this file; the promise does not cite it. Assumes
-- nothing.
use Rattle.std.specs.Prelude.{ℕ, ◌<◌, List, Option}
use Rattle.std.specs.List.{All}
use Rattle.std.specs.Option.{ForSome}

-- each is one of so many rules
abbrev pub NotedBelow : ℕ → List (Option ℕ) → Type 0
NotedBelow rules users = All (λ user. ForSome user (λ r. r < rules)) users
