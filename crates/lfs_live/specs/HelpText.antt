-- The text of `.help`.
use Rattle.std.specs.Prelude.{ℕ, List, [], ◌∷◌, codes}
use Rattle.std.specs.List.{flat_map}
use Rattle.lfs_live.specs.Pieces.{ended_line}

-- its lines: each call and each word of the server's own, with an example
abbrev pub help_lines : List (List ℕ)
help_lines =
    codes "A line is a call, `as`, `session`, `#` and a comment, or a word with a dot. Behind each its example:"
    ∷ codes "as USER GROUPS [init]  who makes the calls from here on: as 7 20,30"
    ∷ codes "session N  the session of the calls from here on, 0 to 8: session 1"
    ∷ codes "stat PATH  a file's number, kind, owner, group, mode, flags and length: stat /a"
    ∷ codes "read PATH OFFSET LENGTH  bytes of a file: read /a 0 5"
    ∷ codes "write PATH at OFFSET BYTES  puts bytes of two digits each there: write /a at 0 68656c6c6f"
    ∷ codes "write PATH end BYTES  puts bytes behind the last: write /a end 21"
    ∷ codes "list PATH  the names in a directory: list /"
    ∷ codes "length PATH LENGTH  sets how many bytes a file has: length /a 3"
    ∷ codes "create PATH MODE  makes a file: create /a 0644"
    ∷ codes "mkdir PATH MODE  makes a directory: mkdir /d 0755"
    ∷ codes "unlink PATH  takes a file away: unlink /a"
    ∷ codes "rmdir PATH  takes an empty directory away: rmdir /d"
    ∷ codes "rename PATH PATH  gives a file or a directory another name: rename /a /d/b"
    ∷ codes "chmod PATH MODE  sets a mode: chmod /a 0600"
    ∷ codes "chown PATH USER GROUP  sets owner and group: chown /a 7 20"
    ∷ codes "chflags PATH FLAGS  sets flags: chflags /a 2"
    ∷ codes "level LEVEL  sets the securelevel, -1 to 2: level 1"
    ∷ codes "sync  writes what waits: sync"
    ∷ codes "pass  has the cleaner make a pass: pass"
    ∷ codes "ifile  a call of the cleaner, as are the next five: ifile"
    ∷ codes "infos SEGMENT  the blocks of a segment: infos 0"
    ∷ codes "bmapv [INFO]..  where these blocks are now: bmapv 4:1:0:17"
    ∷ codes "markv [INFO]..  writes these blocks anew: markv 4:1:0:17"
    ∷ codes "segclean SEGMENT  makes a segment clean: segclean 0"
    ∷ codes "gain  cleans a segment where that gains room: gain"
    ∷ codes ".why CALL  the checks by which a call would be allowed or denied now, without making it: .why unlink /a"
    ∷ codes ".who CALL  who could make a call now, over all callers, without making it: .who write /a end 21"
    ∷ codes ".ls PATH  the names in a directory, each with kind, owner, group, mode, flags and length: .ls /"
    ∷ codes ".tree [PATH]  what is below a directory, else below the root: rows as .ls tells them, indented: .tree /d"
    ∷ codes ".cat PATH  the bytes of a file as text: .cat /a"
    ∷ codes ".journal [K]  what was asked and answered so far, or the last K of it: .journal 5"
    ∷ codes ".map  what stands in each segment of the log: .map"
    ∷ codes ".segment N  each block of a segment: whose it is, where that stands now, live or dead: .segment 0"
    ∷ codes ".space  clean segments, live bytes, numbers in use, what waits, and the journal's entries: .space"
    ∷ codes ".check  whether the volume is well, as lfs_check says of its image, once nothing waits: .check"
    ∷ codes ".save  writes what waits, and saves the volume in the file of --image: .save"
    ∷ codes ".report  how many calls were served, denied and refused so far: .report"
    ∷ codes ".help  these lines, as help and ? alone: .help"
    ∷ codes ".quit  ends with the report, as the end of the input does: .quit"
    ∷ []

unfoldable pub help_text : List ℕ
help_text = flat_map ended_line help_lines
