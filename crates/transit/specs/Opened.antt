-- The operations on the unread messages, to open by one name: for a worked example, which computes a run. A law of the layers above
-- opens none of them, and cites the laws of Laws/Operations and Laws/Removed. Assumes nothing.
use Rattle.transit.specs.Unread.{Unread, appended, relabel_all, relabel_first, removed}

-- what is unread; where this is opened, every operation on it computes
unfoldable pub opened_unread : Unread → Unread
unfolding appended relabel_all relabel_first removed
opened_unread u = u
