-- How full a log is, as a text.
use Rattle.std.specs.Prelude.{ℕ, zero, suc, ◌+◌, List, [], ◌∷◌, ◌++◌, codes, decimal, length, if◌then◌else◌}
use Rattle.lfs_ifile.specs.Tables.{row_of}
use Rattle.lfs_log.specs.Parts.{live_of}
use Rattle.lfs_parts.specs.declared.parts.Parts.{Parts}
use Rattle.lfs_view.specs.MapText.{line_of, waiting_line}
use Rattle.lfs_view.specs.declared.space.Space.{Space}

-- the live bytes of the first n segments
unfoldable pub live_below : Parts → ℕ → ℕ
live_below p zero = 0
live_below p (suc n) = live_below p n + live_of p.log.tables n

-- 1 of a number in use, else 0
abbrev pub one_used : Parts → ℕ → ℕ
one_used p n = if (row_of p.log.tables n).used then 1 else 0

-- how many of the first n numbers are in use
unfoldable pub used_below : Parts → ℕ → ℕ
used_below p zero = 0
used_below p (suc n) = used_below p n + one_used p n

-- a line of a word, a number, and how many of how many
abbrev pub share_line : List ℕ → ℕ → List ℕ → ℕ → List ℕ
share_line what number how all = line_of what (decimal number ∷ how ∷ codes "of" ∷ decimal all ∷ [])

-- how full a log is: its segments and those that are clean, the live bytes of all, its numbers and those in use, and the
-- blocks and records that wait to be written
abbrev pub space_of : Parts → Space
space_of p = record {
  segments = p.log.memory.segments;
  clean = p.log.clean;
  live = live_below p p.log.memory.segments;
  numbers = length p.log.tables.rows;
  used = used_below p (length p.log.tables.rows);
  waiting_blocks = length p.cache.locked;
  waiting_records = length p.waiting;
}

-- its lines: how many segments are clean, how many bytes are live, how many numbers are in use, and what waits
abbrev pub space_lines : Space → List ℕ
space_lines space =
    share_line (codes "segments") space.clean (codes "clean") space.segments
    ++ (line_of (codes "bytes") (decimal space.live ∷ codes "live" ∷ [])
    ++ (share_line (codes "numbers") space.used (codes "used") space.numbers
    ++ waiting_line space.waiting_blocks space.waiting_records))

-- the lines of a store
abbrev pub space_text : Parts → List ℕ
space_text p = space_lines (space_of p)
