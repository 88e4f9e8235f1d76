-- Who did something last to which file.
use Rattle.std.specs.Prelude.{ℕ, List, [], ◌∷◌, ◌++◌, Option, None, codes, decimal, get_or}
use Rattle.lfs_words.specs.PathText.{path_word}
use Rattle.lfs_auditing.specs.declared.last.Last.{Last}
use Rattle.lfs_auditing.specs.declared.last.LastOnes.{LastOnes}

-- who did it last to the file of a number; nobody where there is no such number
abbrev pub last_of : LastOnes → ℕ → Option Last
last_of all number = get_or all.ones.items number None

-- the line of who did it last: the path, the user, the session and the entry
abbrev pub last_text : Last → List ℕ
last_text last =
    (32 ∷ path_word last.path) ++ (32 ∷ codes "user") ++ (32 ∷ decimal last.uid) ++ (32 ∷ codes "session")
    ++ (32 ∷ decimal last.session) ++ (32 ∷ codes "entry") ++ (32 ∷ decimal last.entry) ++ 10 ∷ []
