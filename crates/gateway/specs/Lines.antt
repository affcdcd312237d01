-- Outputs as lines for a log, without their ends. Nothing is said of the text of a reason.
use Rattle.std.specs.Prelude.{ℕ, Option, Some, None, List, [], ◌++◌, length, codes, decimal}
use Rattle.gateway.specs.Outputs as output

-- the Child SA that was made
abbrev pub made_text : Option ℕ → List ℕ
made_text None = []
made_text (Some serial) = codes ", child " ++ decimal serial ++ codes " made"

-- the IKE SA that was closed
abbrev pub closed_text : Option ℕ → List ℕ
closed_text None = []
closed_text (Some serial) = codes ", ike " ++ decimal serial ++ codes " closed"

-- how many requests go out again
abbrev pub again_text : ℕ → List ℕ
again_text count = codes ", " ++ decimal count ++ codes " requests again"

-- how many IKE SAs a tick closed
abbrev pub count_text : ℕ → List ℕ
count_text count = codes ", " ++ decimal count ++ codes " closed"

-- serials, numbers and lengths, and no contents
abbrev pub line_of : output.OutputView → Option (List ℕ)
line_of (output.Reply octets closed) = Some (codes "reply, " ++ decimal (length octets) ++ codes " octets" ++ closed_text closed)
line_of (output.Repeat octets) = Some (codes "repeat, " ++ decimal (length octets) ++ codes " octets")
line_of (output.Request ike octets) = Some (codes "request ike " ++ decimal ike ++ codes ", " ++ decimal (length octets) ++ codes " octets")
line_of (output.Counted ike child closed) = Some (codes "counted ike " ++ decimal ike ++ made_text child ++ closed_text closed)
line_of (output.Ticked requests closed) = Some (codes "ticked" ++ again_text (length requests) ++ count_text (length closed))
line_of output.Done = Some (codes "done")
line_of (output.Up child number packet) = Some (codes "up child " ++ decimal child ++ codes " number " ++ decimal number ++ codes ", " ++ decimal (length packet) ++ codes " octets")
line_of (output.Dummy child number) = Some (codes "dummy child " ++ decimal child ++ codes " number " ++ decimal number)
line_of (output.Sealed child number octets) = Some (codes "sealed child " ++ decimal child ++ codes " number " ++ decimal number ++ codes ", " ++ decimal (length octets) ++ codes " octets")
line_of (output.Clear packet) = Some (codes "clear, " ++ decimal (length packet) ++ codes " octets")
line_of output.Discarded = Some (codes "discarded")
line_of (output.Dropped why) = None
line_of (output.Refused why) = None
