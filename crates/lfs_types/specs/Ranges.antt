-- The ranges of the numbers that a volume is laid out with, from the least to the most of each (this project's
-- profile). They are said here apart from the code's constants, and all clauses on ranges go by them.
use Rattle.std.specs.Prelude.{ℕ}

-- how many segments there may be
abbrev pub least_segments : ℕ
least_segments = 6

abbrev pub most_segments : ℕ
most_segments = 1024

-- how many inode numbers, from 0 up
abbrev pub least_inodes : ℕ
least_inodes = 16

abbrev pub most_inodes : ℕ
most_inodes = 4096

-- how many frames of a block cache
abbrev pub least_frames : ℕ
least_frames = 32

abbrev pub most_frames : ℕ
most_frames = 1024
