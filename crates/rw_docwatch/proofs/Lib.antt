mod WatchCodes
